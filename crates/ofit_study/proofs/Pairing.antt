-- The parts of a study with other pairs.
use Rattle.std.proofs.Common.{◌≡◌, ◌≢◌, ℕ, ◌<◌, ◌≤◌, List, [], length, refl, sym, subst, arith}
use Rattle.std.proofs.lemmas.List.{length-map}
use Rattle.std.proofs.lemmas.List.Elements.{All-map, All-weaker, Contains-get_or}
use Rattle.std.specs.Prelude.{map, All, AllPairs, Contains, ◌↔◌}
use Rattle.ofit_num.specs.declared.row.Row.{Row}
use Rattle.ofit_study.specs.declared.entry.Entry.{Entry}
use Rattle.ofit_study.specs.declared.settings.Settings.{Settings}
use Rattle.ofit_study.specs.Study.{Study, HasPairs, ComesBefore, group_names, names_of, most_pairs}
use Rattle.ofit_study.specs.Kept.{AreKept, observed, named, name_at}
use Rattle.ofit_study.proofs.GroupNames.{group_names-distinct}
use Rattle.ofit_study.proofs.Pushing.{places_are}

module _ (settings : Settings) (names : List (List ℕ)) (entries : List Entry) (groups : List (List Row)) (pairs : List (ℕ × ℕ)) (weight : ℕ) (kept : AreKept settings names entries groups pairs weight) where
  pub names-distinct : AllPairs (λ a b. a ≢ b) names
  names-distinct = subst (AllPairs (λ a b. a ≢ b)) (sym kept.names_are) (group_names-distinct (map (observed names) entries))

  module _ (places : List (ℕ × ℕ)) (ends : All (λ e. (e.0 < length names) × (e.1 < length names)) places) (in_order : AllPairs ComesBefore (map (named names) places)) (few : length places ≤ most_pairs) where
    known : All (λ e. Contains (group_names (map (observed names) entries)) e.0 × Contains (group_names (map (observed names) entries)) e.1) (map (named names) places)
    known =
        All-map (λ e. Contains (group_names (map (observed names) entries)) e.0 × Contains (group_names (map (observed names) entries)) e.1) (named names) places
        (All-weaker (λ e. (e.0 < length names) × (e.1 < length names)) (λ e. Contains (group_names (map (observed names) entries)) (name_at names e.0) × Contains (group_names (map (observed names) entries)) (name_at names e.1))
        (λ e h. (among e.0 h.0, among e.1 h.1)) places ends)
      where
        among : (p : ℕ) → p < length names → Contains (group_names (map (observed names) entries)) (name_at names p)
        among p l = subst (λ (t : List (List ℕ)). Contains t (name_at names p)) kept.names_are (Contains-get_or names p _ l)

    pub kept-with_pairs : AreKept settings names entries groups places weight
    kept-with_pairs = record {
      valid = record {
        settings = kept.valid.settings;
        each = kept.valid.each;
        rising = kept.valid.rising;
        together = kept.valid.together;
        rows = kept.valid.rows;
        groups = kept.valid.groups;
        known = known;
        in_order = in_order;
        pairs = omega (arith, length-map places (named names));
      };
      names_are = kept.names_are;
      groups_are = kept.groups_are;
      pairs_are = places_are names (map (observed names) entries) kept.names_are places ends;
      weight_is = kept.weight_is;
      placed = kept.placed;
      ends = ends;
    }

-- a study with other pairs of its own places
module _ (s : Study) (places : List (ℕ × ℕ)) (ends : All (λ e. (e.0 < length (names_of s)) × (e.1 < length (names_of s))) places) where
  known_names : All (λ e. Contains (names_of s) e.0 × Contains (names_of s) e.1) (map (named (names_of s)) places)
  known_names =
      All-map (λ e. Contains (names_of s) e.0 × Contains (names_of s) e.1) (named (names_of s)) places
      (All-weaker (λ e. (e.0 < length (names_of s)) × (e.1 < length (names_of s))) (λ e. Contains (names_of s) (name_at (names_of s) e.0) × Contains (names_of s) (name_at (names_of s) e.1))
      (λ e h. (Contains-get_or (names_of s) e.0 [] h.0, Contains-get_or (names_of s) e.1 [] h.1)) places ends)

  pub given_pairs : (given : List (ℕ × ℕ)) (t : Study) → AllPairs ComesBefore (map (named (names_of s)) places) → ((e : ℕ × ℕ) → Contains given e ↔ Contains places e)
      → t ≡ record s { pairs = map (named (names_of s)) places } → HasPairs s given t
  given_pairs given t in_order same is = subst (HasPairs s given) (sym is) (record {
    others = refl;
    in_order = in_order;
    only = subst (λ (l : List (ℕ × ℕ)). (e : ℕ × ℕ) → Contains given e ↔ Contains l e) (places_are (names_of s) s.rows refl places ends) same;
    known = known_names;
  })
