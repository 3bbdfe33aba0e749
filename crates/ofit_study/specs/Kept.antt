-- What the parts of a study say of it: rows with the places of their groups, by rising number, and pairs of places.
use Rattle.std.specs.Prelude.{◌≡◌, ◌<◌, ℕ, List, [], length, map, All, slice_index_or}
use Rattle.ofit_num.specs.declared.row.Row.{Row}
use Rattle.ofit_study.specs.declared.settings.Settings.{Settings}
use Rattle.ofit_study.specs.declared.entry.Entry.{Entry}
use Rattle.ofit_study.specs.Study.{Observation, Study, IsValid, names_of, groups_of, places_of, total_weight}

-- the name at a place
abbrev pub name_at : List (List ℕ) → ℕ → List ℕ
name_at names place = slice_index_or names place []

abbrev pub observed : List (List ℕ) → Entry → Observation
observed names e = record { number = e.row.number; group = name_at names e.place; value = e.row.value; weight = e.row.weight }

abbrev pub named : List (List ℕ) → ℕ × ℕ → List ℕ × List ℕ
named names e = (name_at names e.0, name_at names e.1)

-- the study that the parts make
abbrev pub made_of : Settings → List (List ℕ) → List Entry → List (ℕ × ℕ) → Study
made_of settings names entries pairs = record { settings = settings; rows = map (observed names) entries; pairs = map (named names) pairs }

-- the parts are those of a valid study
pub record AreKept (settings : Settings) (names : List (List ℕ)) (entries : List Entry) (groups : List (List Row)) (pairs : List (ℕ × ℕ)) (weight : ℕ) : Type 0 where
  pub valid : IsValid (made_of settings names entries pairs)
  pub names_are : names ≡ names_of (made_of settings names entries pairs)
  pub groups_are : groups ≡ groups_of (made_of settings names entries pairs)
  pub pairs_are : pairs ≡ places_of (made_of settings names entries pairs)
  pub weight_is : weight ≡ total_weight (map (observed names) entries)
  pub placed : All (λ e. e.place < length names) entries
  pub ends : All (λ e. (e.0 < length names) × (e.1 < length names)) pairs
