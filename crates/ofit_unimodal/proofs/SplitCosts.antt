-- The first of the cheapest splits, found in the list of what they cost.
use Rattle.std.proofs.Common.{◌≡◌, ◌∙◌, ℕ, suc, ◌<◌, ◌≤◌, ap, arith, length, List}
use Rattle.std.proofs.lemmas.Bool.Decides.{nat_tests}
use Rattle.std.proofs.lemmas.List.FromFn.{get_or-map-range_with_len, length-map-range_with_len}
use Rattle.std.specs.Prelude.{ℤ, nat_lt, slice_index, true, false}
use Rattle.std.specs.List.{IsFirstBest}
use Rattle.ofit_num.specs.Problem.{Problem}
use Rattle.ofit_unimodal.specs.Costs.{split_cost, split_costs, IsCheapest}

not_below : (x y : ℕ) → nat_lt x y ≡ false → y ≤ x
not_below x y e = grind (arith, nat_tests)

below : (x y : ℕ) → nat_lt x y ≡ true → x < y
below x y e = grind (arith, nat_tests)

module _ (s : Problem) (rises falls : List (List (ℤ × ℤ))) (costs : List ℕ) (is : costs ≡ split_costs s rises falls) where
  pub cost_count : length costs ≡ suc s.count
  cost_count = ap length is ∙ length-map-range_with_len (split_cost s rises falls) 0 (suc s.count)

  pub cost_at : (i : ℕ) → i ≤ s.count → slice_index costs i ≡ split_cost s rises falls i
  cost_at i l = ap (λ (cs : List ℕ). slice_index cs i) is ∙ get_or-map-range_with_len (split_cost s rises falls) 0 (suc s.count) i i 0 (omega (arith, l)) (omega arith)

  pub cheapest_split : (b : ℕ) → IsFirstBest nat_lt costs (length costs) b → IsCheapest s rises falls b
  cheapest_split b best =
      let inside : b ≤ s.count = omega (arith, best.0, cost_count) in
      record {
        inside = inside;
        least = λ i l. omega (arith, not_below _ _ (best.1 i 0 (omega (arith, l, cost_count))), cost_at b inside, cost_at i l);
        first = λ i l. omega (arith, below _ _ (best.2 i 0 l), cost_at b inside, cost_at i (omega (arith, l, inside)));
      }
