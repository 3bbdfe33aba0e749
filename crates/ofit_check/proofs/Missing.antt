-- The first place that a list of values with rising places leaves out.
use Rattle.std.proofs.Common.{◌≡◌, ◌≢◌, ℕ, zero, suc, ◌<◌, ◌≤◌, ◌⊎◌, inl, inr, refl, sym, ap, subst, ◌∙◌, arith, List, [], ◌∷◌, length, get_or}
use Rattle.std.proofs.lemmas.Bool.{cases_order}
use Rattle.std.proofs.lemmas.Option.{slice_get-get_or, same_Some}
use Rattle.std.specs.Prelude.{All, AllPairs, slice_get, Option, Some, None, IsSome}
use Rattle.ofit_num.specs.Fraction.{Fraction}
use Rattle.ofit_num.specs.Sheet.{Entry, Sheet, FitsCount, entry_value}
use Rattle.ofit_num.specs.Verdict.{HasValue, FailsFirst}
use Rattle.ofit_num.proofs.Lists.{All-slice_get}
use Rattle.ofit_num.proofs.Sheets.{AllPairs-head, AllPairs-tail, here_value, later_value, no_value, not_some}
use Rattle.ofit_check.specs.Check.{IsAtPlace}

-- an entry gives its place its value
value_at : (es : List Entry) → AllPairs (λ e f. e.place < f.place) es → (k : ℕ) (e : Entry) → slice_get es k ≡ Some e → entry_value es e.place ≡ Some e.value
value_at [] r k e h = cc
value_at (d ∷ es) r zero e h =
    let same : d ≡ e = same_Some d e h in
    here_value d es e.place (ap (λ (t : Entry). t.place) same) ∙ ap (λ (t : Entry). Some t.value) same
value_at (d ∷ es) r (suc k) e h =
    let later : d.place < e.place = All-slice_get (λ f. d.place < f.place) es k e (AllPairs-head (λ e f. e.place < f.place) d es r) h in
    later_value d es e.place (λ same. omega arith) ∙ value_at es (AllPairs-tail (λ e f. e.place < f.place) d es r) k e h

-- rising places are at least their indexes
at_least : (es : List Entry) → AllPairs (λ e f. e.place < f.place) es → (j : ℕ) (d : Entry) → j < length es → j ≤ (get_or es j d).place
at_least es r zero d l = omega arith
at_least es r (suc j) d l = omega (arith, at_least es r j d (omega arith), r j (suc j) d (omega arith) l)

some_is : (o : Option Fraction) (f : Fraction) → o ≡ Some f → IsSome o
some_is None f e = cc
some_is (Some g) f e = refl

module _ {S : Type 0} (n : ℕ) (x : Sheet S) (fits : FitsCount n x) where
  pub present : (k : ℕ) → IsAtPlace x k → HasValue x k
  present k h = subst (λ (t : ℕ). HasValue x t) h.2 (some_is (entry_value x.values h.0.place) h.0.value (value_at x.values fits.rising k h.0 h.1))

  pub missing : (g : ℕ) → g < n → ((k : ℕ) → k < g → IsAtPlace x k) → (IsAtPlace x g → ⊥) → FailsFirst (HasValue x) n g
  missing g l before fails = record {
    below = l;
    before = λ k b. present k (before k b);
    fails = not_some (entry_value x.values g) (no_value x.values g elsewhere);
  } where
    elsewhere : All (λ e. e.place ≢ g) x.values
    elsewhere j d b same = go (cases_order j g) where
      at_j : slice_get x.values j ≡ Some (get_or x.values j d)
      at_j = slice_get-get_or x.values j d b

      go : (j ≡ g) ⊎ ((j < g) ⊎ (g < j)) → ⊥
      go (inl e) = fails (get_or x.values j d, subst (λ (t : ℕ). slice_get x.values t ≡ Some (get_or x.values j d)) e at_j, same)
      go (inr (inl k)) =
          let known : IsAtPlace x j = before j k in
          let one : known.0 ≡ get_or x.values j d = same_Some known.0 (get_or x.values j d) (sym known.1 ∙ at_j) in
          let place : known.0.place ≡ (get_or x.values j d).place = ap (λ (t : Entry). t.place) one in
          omega (arith, place, known.2, same)
      go (inr (inr k)) = omega (arith, at_least x.values fits.rising j d b, same)
