-- The sides of a peaked sheet that has its shape.
use Rattle.std.proofs.Common.{◌≡◌, ℕ, suc, ◌+◌, ◌-◌, ◌<◌, ◌≤◌, ℤ, List, [], length, get_or, Option, Some, None, sym, ap, subst, ◌∙◌, arith}
use Rattle.std.specs.Prelude.{slice_get, MatchOption}
use Rattle.std.proofs.lemmas.Option.{slice_get-get_or, get_or_from_slice_get}
use Rattle.ofit_sheet.specs.declared.peaked.slope.Slope.{Slope}
use Rattle.ofit_sheet.specs.declared.peaked.slope.Slope.TheVariants.{Rise, Fall}
use Rattle.ofit_sheet.specs.Peaked.{Peaked, IsShaped, IsSide, rise_at, fall_at}
use Rattle.ofit_sheet.specs.PeakedText.{side_start}
use Rattle.ofit_sheet.specs.Sides.{sides_of}
use Rattle.ofit_sheet.specs.Slots.{steps_before_last}

back : (k : ℕ) → k + 1 - 1 ≡ k
back k = omega arith

pub rise_there : (slope : Slope) (x : Peaked) (i : ℕ) (side : List (ℤ × ℤ)) → slope ≡ Rise → i < length (sides_of slope x) → side ≡ rise_at x (i + 1) → slice_get (sides_of slope x) i ≡ Some side
rise_there Rise x i side e l h = slice_get-get_or x.rises i [] l ∙ ap (λ (j : ℕ). Some (get_or x.rises j [])) (sym (back i)) ∙ ap Some (sym h)
rise_there Fall x i side e l h = absurd (cc)

pub fall_there : (slope : Slope) (x : Peaked) (i : ℕ) (side : List (ℤ × ℤ)) → slope ≡ Fall → i < length (sides_of slope x) → side ≡ fall_at x i → slice_get (sides_of slope x) i ≡ Some side
fall_there Rise x i side e l h = absurd (cc)
fall_there Fall x i side e l h = slice_get-get_or x.falls i [] l ∙ ap Some (sym h)

pub place_there : (peak : Option ℕ) (n place : ℕ) → MatchOption peak (n ≡ 0) (λ k. k < n) → peak ≡ Some place → place < n
place_there None n place h e = absurd (cc)
place_there (Some k) n place h e = let same : k ≡ place = cc in omega (arith, h, same)

module _ (n : ℕ) (x : Peaked) (shaped : IsShaped n x) where
  pub sides_count : (slope : Slope) → length (sides_of slope x) ≡ n
  sides_count Rise = shaped.rises
  sides_count Fall = shaped.falls

  pub side_so : (slope : Slope) (i : ℕ) (side : List (ℤ × ℤ)) → i < n → slice_get (sides_of slope x) i ≡ Some side → IsSide (suc (steps_before_last slope n i)) side
  side_so Rise i side l e =
      let there : rise_at x (suc i) ≡ side = ap (λ (j : ℕ). get_or x.rises j []) (let k : suc i - 1 ≡ i = omega arith in k) ∙ get_or_from_slice_get x.rises i side [] e in
      subst (IsSide (suc i)) there (shaped.rise (suc i) (omega arith) (omega (arith, l)))
  side_so Fall i side l e =
      let count : n - i ≡ suc (n - suc i) = omega (arith, l) in
      subst (IsSide (suc (n - suc i))) (get_or_from_slice_get x.falls i side [] e) (subst (λ (k : ℕ). IsSide k (fall_at x i)) count (shaped.fall i l))

  pub side_within : (slope : Slope) (i : ℕ) (side : List (ℤ × ℤ)) → i < n → slice_get (sides_of slope x) i ≡ Some side → side_start slope i + length side ≤ n
  side_within Rise i side l e = omega (arith, l, (side_so Rise i side l e).count)
  side_within Fall i side l e = omega (arith, l, (side_so Fall i side l e).count)
