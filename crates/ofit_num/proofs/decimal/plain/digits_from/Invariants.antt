use Rattle.std.proofs.Common.{◌≡◌, ◌+◌, ◌*◌, ◌≤◌, ◌^◌, ◌++◌, List, ℕ, length, drop}
use Rattle.std.specs.List.{AllByRecursion}
use Rattle.ofit_num.specs.NumberText.{IsDigit, spelled_after}
use Rattle.ofit_num.proofs.decimal.plain.digits_from.Given as goal

abbrev pub invariant-loop-index : goal.invariant-loop-index
invariant-loop-index l = record {
  spells : (digits : List ℕ) × AllByRecursion IsDigit digits × (drop l.start l.text ≡ digits ++ drop l.index l.text) × (l.longer ≡ spelled_after l.number digits);
  room : (l.longer + 1) * 10 ^ length (drop l.index l.text) ≤ 10 ^ 12;
}
