-- A folder in memory as its callers see it.
use Rattle.std.specs.Prelude.{ℕ, List, map, Vec, string_bytes, String, refl}
use Rattle.std.specs.Coded.{Coded, code_by, coded×, coded_ℕ, coded_list}
use Rattle.std.specs.FinMap.{from_entries, code}
use Rattle.std.specs.declared.alloc.Global.{Global}
use Rattle.ofit_outside.specs.Folder.{Held}

pub record FolderView : Type 0 where
  pub held : Held
  -- the numbers of the fetches that fail
  pub fails : List ℕ
  -- how many fetches there were; it stays at 2^64 - 1
  pub fetches : ℕ
  pub faults : ℕ

-- it is stored as the pairs of its fields
abbrev pub view_code : Coded FolderView
view_code =
    code_by ((Held × List ℕ) × (ℕ × ℕ)) (coded× (coded× (code (coded_list coded_ℕ) (coded_list coded_ℕ)) (coded_list coded_ℕ)) (coded× coded_ℕ coded_ℕ))
    (λ v. ((v.held, v.fails), (v.fetches, v.faults))) (λ p. record { held = p.0.0; fails = p.0.1; fetches = p.1.0; faults = p.1.1 }) (λ _. refl)

-- what these entries hold
abbrev pub held_of : List (String Global × Vec ℕ Global) → Held
held_of entries = from_entries (map (λ e. (string_bytes e.0, e.1.items)) entries)
