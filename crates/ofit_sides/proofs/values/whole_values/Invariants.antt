use Rattle.std.proofs.Common.{◌≡◌, ◌≤◌, ◌^◌, ℤ, map, take}
use Rattle.std.specs.Prelude.{All, unsigned_abs}
use Rattle.ofit_sides.specs.Values.{whole_fraction}
use Rattle.ofit_sides.proofs.values.whole_values.Given as goal

abbrev pub invariant-loop-value : goal.invariant-loop-value
invariant-loop-value l = record {
  same : take l.value-index l.values ≡ map whole_fraction l.whole.items;
  small : All (λ (z : ℤ). unsigned_abs z ≤ 10 ^ 9) l.whole.items;
}
