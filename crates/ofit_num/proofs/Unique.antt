-- A problem has at most one list of least best values in lowest terms.
use Rattle.std.proofs.Common.{◌≡◌, ℕ, ◌<◌, sym, ◌∙◌, arith, subst, List}
use Rattle.std.proofs.lemmas.Int.{ints}
use Rattle.std.proofs.lemmas.Option.{slice_get_within}
use Rattle.std.specs.Prelude.{pos, ◌*ℤ◌, All, slice_get, Some}
use Rattle.ofit_num.specs.Problem.{Problem}
use Rattle.ofit_num.specs.Meaning.{Meaning}
use Rattle.ofit_num.specs.Fraction.{Fraction, IsLowest, SameValue}
use Rattle.ofit_num.specs.Trial.{scale_of, value_of}
use Rattle.ofit_num.specs.Fit.{LeastBestValues}
use Rattle.ofit_num.proofs.Lists.{All-slice_get, same_lists}
use Rattle.ofit_num.proofs.Trials.{value_of-den, cross}
use Rattle.ofit_num.proofs.Coprime.{same_lowest}

module _ (m : Meaning) (s : Problem) (fs hs : List Fraction) (lf : All IsLowest fs) (lh : All IsLowest hs) (bf : LeastBestValues m s fs) (bh : LeastBestValues m s hs) where
  -- each list is at most the other
  equal_values : (g : ℕ) → g < s.count → value_of fs g *ℤ pos (scale_of hs) ≡ value_of hs g *ℤ pos (scale_of fs)
  equal_values g l = omega (arith, ints, bf.least_best.least _ bh.least_best.best g l, bh.least_best.least _ bf.least_best.best g l)

  same_value : (g : ℕ) (f h : Fraction) → g < s.count → slice_get fs g ≡ Some f → slice_get hs g ≡ Some h → SameValue f h
  same_value g f h l e d =
      let above : (value_of fs g) *ℤ pos h.den ≡ h.num *ℤ pos (scale_of fs) = cross (value_of fs g) h.num (value_of hs g) (scale_of hs) (scale_of fs) h.den bh.least_best.best.obeys.scale (equal_values g l) (sym (value_of-den hs g h d)) in
      cross f.num h.num (value_of fs g) (scale_of fs) f.den h.den bf.least_best.best.obeys.scale (sym (value_of-den fs g f e)) (sym above)

  -- Two lists of least best values in lowest terms are equal.
  pub unique_least_best : fs ≡ hs
  unique_least_best = same_lists fs hs (bf.count ∙ sym bh.count)
      (λ g f h e d. same_lowest f h (All-slice_get IsLowest fs g f lf e) (All-slice_get IsLowest hs g h lh d) (same_value g f h (subst (λ (n : ℕ). g < n) bf.count (slice_get_within fs g f e)) e d))
