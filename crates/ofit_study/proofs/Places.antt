-- The places of names, and of a valid study.
use Rattle.std.proofs.Common.{◌≡◌, ◌≢◌, ◌∙◌, ℕ, ◌<◌, List, length, sym, ap, arith}
use Rattle.std.proofs.lemmas.List.{length-map}
use Rattle.std.proofs.lemmas.Option.{slice_get_within}
use Rattle.std.specs.Prelude.{AllPairs, slice_get, Some}
use Rattle.ofit_num.proofs.Lists.{All-slice_get}
use Rattle.ofit_study.specs.Study.{Study, IsValid, names_of, groups_of, places_of, place_among, rows_named}
use Rattle.ofit_study.proofs.Pushing.{place_among-at, name_at-get}
use Rattle.ofit_study.proofs.Stating.{pairs_have_places}

-- a name stands at one place of distinct ones
pub named_place : (names : List (List ℕ)) (name : List ℕ) (p q : ℕ) → AllPairs (λ a b. a ≢ b) names → slice_get names p ≡ Some name → slice_get names q ≡ Some name → p ≡ q
named_place names name p q apart e f =
    sym (place_among-at names apart p (slice_get_within names p name e))
    ∙ ap (place_among names) (name_at-get names p name e ∙ sym (name_at-get names q name f))
    ∙ place_among-at names apart q (slice_get_within names q name f)

pub group_count : (s : Study) → length (groups_of s) ≡ length (names_of s)
group_count s = length-map (names_of s) (rows_named s.rows)

pub pair_count : (s : Study) → length (places_of s) ≡ length s.pairs
pair_count s = length-map s.pairs (λ e. (place_among (names_of s) e.0, place_among (names_of s) e.1))

pub pair_inside : (s : Study) → IsValid s → (i : ℕ) (e : ℕ × ℕ) → slice_get (places_of s) i ≡ Some e → (e.0 < length (names_of s)) × (e.1 < length (names_of s))
pair_inside s v i e at =
    let ends = All-slice_get (λ f. (f.0 < length (groups_of s)) × (f.1 < length (groups_of s))) (places_of s) i e (pairs_have_places s v) at in
    (omega (arith, group_count s, ends.0), omega (arith, group_count s, ends.1))
