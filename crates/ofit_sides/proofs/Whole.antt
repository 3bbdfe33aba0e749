-- The values of a least fit under the median are whole.
use Rattle.std.proofs.Common.{◌≡◌, ℕ, ◌<◌, ◌≤◌, ◌^◌, List, [], ◌∷◌, ◌++◌, map, length, take, get_or, Some, ◌+◌, FitsSigned, sym, ap, ◌∙◌, arith}
use Rattle.std.proofs.lemmas.List.{take_more, map-append}
use Rattle.std.proofs.lemmas.Option.{slice_get_within, slice_get-get_or}
use Rattle.std.specs.Int.{w64}
use Rattle.std.proofs.lemmas.Int.{ints}
use Rattle.std.specs.Prelude.{ℤ, pos, ◌*ℤ◌, slice_get, unsigned_abs}
use Rattle.ofit_num.specs.Fraction.{Fraction, IsLowest}
use Rattle.ofit_num.specs.RowLimits.{IsRowWithinLimits}
use Rattle.ofit_num.specs.Trial.{trial_of}
use Rattle.ofit_num.proofs.Coprime.{same_lowest}
use Rattle.ofit_num.proofs.Gap.{is_gap, gap-same, gap-mul, pos-gap}
use Rattle.ofit_num.proofs.Lists.{All-slice_get}
use Rattle.ofit_num.proofs.Order.{swap_ℤ, assoc_swap, cancel_ℤ}
use Rattle.ofit_num.proofs.Trials.{trial_of-represents}
use Rattle.ofit_loss.proofs.MedianLeast.{lowest_whole}
use Rattle.ofit_sides.specs.Values.{whole_fraction, IsOfRow, IsLeastFit}
use Rattle.ofit_sides.proofs.RowValues.{row_value}

one_scale : (z : ℤ) → z *ℤ pos 1 ≡ z
one_scale z = rw (is_gap z) (simp (pos-gap, gap-mul) (gap-same _ _ _ _ (omega arith)))

pub of_row : (fs : List Fraction) → IsLeastFit fs → (g : ℕ) (c : Fraction) → slice_get fs g ≡ Some c → IsOfRow c
of_row fs h g c e =
    let inside : g < h.problem.count = omega (arith, slice_get_within fs g c e, h.count) in
    let t = trial_of fs in
    let some = h.settled.settled.obeys.scale in
    let r = row_value h.problem t h.free h.settled g inside in
    let y : ℤ = r.row.value in
    let cross : t.value g *ℤ pos c.den ≡ c.num *ℤ pos t.scale = (trial_of-represents fs some).values g c e in
    let turned : (y *ℤ pos c.den) *ℤ pos t.scale ≡ c.num *ℤ pos t.scale =
    assoc_swap y (pos c.den) (pos t.scale) ∙ ap (λ (z : ℤ). z *ℤ pos c.den) (swap_ℤ y (pos t.scale) ∙ sym r.value) ∙ cross in
    record {
      value = y;
      small = (All-slice_get IsRowWithinLimits (h.problem.rows r.group) r.index r.row (h.limits r.group r.inside).each r.there).value;
      same = one_scale c.num ∙ sym (cancel_ℤ (y *ℤ pos c.den) c.num t.scale some turned);
    }

pub whole_is : (c : Fraction) → IsLowest c → (h : IsOfRow c) → c ≡ whole_fraction h.value
whole_is c l h = same_lowest c (whole_fraction h.value) l (lowest_whole h.value) h.same

pub small_fits : (z : ℤ) → unsigned_abs z ≤ 10 ^ 9 → FitsSigned w64 z
small_fits z l = omega (arith, ints, l)

-- one value more
pub one_whole : (fs : List Fraction) (i : ℕ) (c : Fraction) (old new : List ℤ) (z : ℤ) → i < length fs → c ≡ get_or fs i c → c ≡ whole_fraction z → take i fs ≡ map whole_fraction old → new ≡ old ++ z ∷ [] → take (i + 1) fs ≡ map whole_fraction new
one_whole fs i c old new z l at w h e =
    take_more fs i c l ∙ ap (λ (f : Fraction). take i fs ++ f ∷ []) (sym at ∙ w) ∙ ap (λ (t : List Fraction). t ++ whole_fraction z ∷ []) h ∙ sym (ap (map whole_fraction) e ∙ map-append whole_fraction old (z ∷ []))

pub there : (fs : List Fraction) (i : ℕ) (c : Fraction) → i < length fs → c ≡ get_or fs i c → slice_get fs i ≡ Some c
there fs i c l at = slice_get-get_or fs i c l ∙ ap Some (sym at)
