-- A name has one place among names of which none stands twice.
use Rattle.std.proofs.Common.{◌≡◌, ◌≢◌, ℕ, ◌<◌, List, sym, ◌∙◌, inl, inr, arith}
use Rattle.std.specs.Prelude.{All, AllPairs, slice_get, Some}
use Rattle.std.proofs.lemmas.Bool.{cases_lt}
use Rattle.std.proofs.lemmas.Option.{slice_get_within, get_or_from_slice_get}
use Rattle.ofit_study.specs.Study.{Study, names_of}
use Rattle.ofit_study.proofs.GroupNames.{group_names-distinct}

earlier : (names : List (List ℕ)) (name : List ℕ) (p q : ℕ) → AllPairs (λ a b. a ≢ b) names → slice_get names p ≡ Some name → slice_get names q ≡ Some name → p < q → ⊥
earlier names name p q apart e f l =
    apart p q name l (slice_get_within names q name f) (get_or_from_slice_get names p name name e ∙ sym (get_or_from_slice_get names q name name f))

pub one_place : (s : Study) (name : List ℕ) (p q : ℕ) → slice_get (names_of s) p ≡ Some name → slice_get (names_of s) q ≡ Some name → p ≡ q
one_place s name p q e f =
    let apart = group_names-distinct s.rows in
    elim (cases_lt p q) [
      | inl less ↦ absurd (earlier (names_of s) name p q apart e f less)
      | inr more ↦ elim (cases_lt q p) [ inl less ↦ absurd (earlier (names_of s) name q p apart f e less) | inr same ↦ omega (arith, more, same) ]
    ]

-- no place of a name that is none of the names
pub no_place : (names : List (List ℕ)) (name : List ℕ) (p : ℕ) → All (λ known. known ≢ name) names → slice_get names p ≡ Some name → ⊥
no_place names name p none e = none p name (slice_get_within names p name e) (get_or_from_slice_get names p name name e)
