-- A worked chain, computed: A 1, B 3, C 2 with weight 1 each has the isotonic regression 1, 5/2, 5/2 under squares.
use Rattle.std.proofs.Common.{◌≡◌, ℕ, zero, suc, refl, arith, List, [], ◌∷◌}
use Rattle.std.proofs.lemmas.Int.{ints}
use Rattle.std.proofs.lemmas.List.Elements.{All-from_recursion}
use Rattle.std.specs.Prelude.{pos, ◌-ℤ◌, ◌≤ℤ◌, Some, None}
use Rattle.ofit_num.specs.declared.row.Row.{Row}
use Rattle.ofit_num.specs.Problem.{Problem}
use Rattle.ofit_num.specs.Fraction.{Fraction}
use Rattle.ofit_num.specs.Trial.{trial_of}
use Rattle.ofit_num.specs.Fit.{Obeys, trial_cost}
use Rattle.ofit_num.specs.Flow.{balance}
use Rattle.ofit_num.specs.Loss.{squares, median}
use Rattle.ofit_num.specs.Sheet.{Sheet, sheet_values}
use Rattle.ofit_num.specs.Verdict.{AllBelow, Passes, IsVerdict, flow_not_tight, balance_outside}

abbrev worked_rows : ℕ → List Row
worked_rows zero = record { number = 1; value = pos 1; weight = 1 } ∷ []
worked_rows (suc zero) = record { number = 2; value = pos 3; weight = 1 } ∷ []
worked_rows (suc (suc n)) = record { number = 3; value = pos 2; weight = 1 } ∷ []

abbrev worked : Problem
worked = record {
  count = 3;
  rows = worked_rows;
  pairs = (0, 1) ∷ (1, 2) ∷ [];
  bounds = λ g. record { lo = None; hi = None };
}

abbrev one : Fraction
one = record { num = pos 1; den = 1 }

abbrev five_halves : Fraction
five_halves = record { num = pos 5; den = 2 }

abbrev fitted : List Fraction
fitted = one ∷ five_halves ∷ five_halves ∷ []

-- over the scale 4 the values are 4, 10, 10
example_scale : (trial_of fitted).scale ≡ 4
example_scale = refl

example_values : ((trial_of fitted).value 0 ≡ pos 4) × ((trial_of fitted).value 1 ≡ pos 10) × ((trial_of fitted).value 2 ≡ pos 10)
example_values = (refl, refl, refl)

-- the values obey the chain
example_obeys : Obeys worked (trial_of fitted)
example_obeys = record {
  scale = omega arith;
  pairs = All-from_recursion (λ e. (trial_of fitted).value e.0 ≤ℤ (trial_of fitted).value e.1) ((0, 1) ∷ (1, 2) ∷ []) (omega (arith, ints), (omega (arith, ints), tt));
  low = λ g l. tt;
  high = λ g l. tt;
}

-- in sixteenths they cost 8 under squares, and in quarters 4 under the median's loss
example_cost : trial_cost squares worked (trial_of fitted) ≡ 8
example_cost = refl

example_median_cost : trial_cost median worked (trial_of fitted) ≡ 4
example_median_cost = refl

-- the flow of 1 from B to C
abbrev worked_sheet : {S : Type 0} → S → Sheet S
worked_sheet own = record {
  settings = own;
  size = Some (record { rows = 3; weight = 3 });
  values = record { place = 0; value = one } ∷ record { place = 1; value = five_halves } ∷ record { place = 2; value = five_halves } ∷ [];
  flows = record { low = 1; high = 2; amount = 1 } ∷ [];
}

example_sheet_values : {S : Type 0} (own : S) → sheet_values (worked_sheet own) ≡ fitted
example_sheet_values own = refl

example_balances : {S : Type 0} (own : S) → (balance (worked_sheet own).flows 0 ≡ pos 0) × (balance (worked_sheet own).flows 1 ≡ pos 1) × (balance (worked_sheet own).flows 2 ≡ pos 0 -ℤ pos 1)
example_balances own = (refl, refl, refl)

below_one : (P : ℕ → Type 0) → P 0 → AllBelow P 1
below_one P a zero l = a
below_one P a (suc n) l = absurd (omega arith)

below_two : (P : ℕ → Type 0) → P 0 → P 1 → AllBelow P 2
below_two P a b zero l = a
below_two P a b (suc zero) l = b
below_two P a b (suc (suc n)) l = absurd (omega arith)

below_three : (P : ℕ → Type 0) → P 0 → P 1 → P 2 → AllBelow P 3
below_three P a b c zero l = a
below_three P a b c (suc zero) l = b
below_three P a b c (suc (suc zero)) l = c
below_three P a b c (suc (suc (suc n))) l = absurd (omega arith)

-- The sheet with that flow passes, whatever the settings are.
example_passes : {S : Type 0} (own : S) → Passes squares worked own (worked_sheet own)
example_passes own = record {
  tight = record {
    in_order = record {
      on_pairs = record {
        within_bounds = record {
          obedient = record {
            complete = record {
              sized = record { settings = refl; size = (refl, refl) };
              complete = below_three _ refl refl refl;
            };
            rises = below_two _ (omega (arith, ints)) (omega (arith, ints));
          };
          within = below_three _ (tt, tt) (tt, tt) (tt, tt);
        };
        on_pairs = below_one _ (1, omega arith, refl);
      };
      in_order = below_one _ tt;
    };
    tight = below_one _ refl;
  };
  balances = below_three _ (record { least = λ e. omega (arith, ints); greatest = λ e. omega (arith, ints) })
      (record { least = λ e. omega (arith, ints); greatest = λ e. omega (arith, ints) })
      (record { least = λ e. omega (arith, ints); greatest = λ e. omega (arith, ints) });
}

abbrev sheet_without_flow : {S : Type 0} → S → Sheet S
sheet_without_flow own = record {
  settings = own;
  size = None;
  values = (worked_sheet own).values;
  flows = [];
}

-- Without the flow the first balance outside its span is that of B: 0 where the residual is 1.
example_without_flow : {S : Type 0} (own : S) → IsVerdict squares worked own (sheet_without_flow own) (balance_outside 1)
example_without_flow own = (
  record {
    in_order = record {
      on_pairs = record {
        within_bounds = record {
          obedient = record {
            complete = record {
              sized = record { settings = refl; size = tt };
              complete = below_three _ refl refl refl;
            };
            rises = below_two _ (omega (arith, ints)) (omega (arith, ints));
          };
          within = below_three _ (tt, tt) (tt, tt) (tt, tt);
        };
        on_pairs = λ k l. absurd (omega arith);
      };
      in_order = λ k l. absurd (omega arith);
    };
    tight = λ k l. absurd (omega arith);
  },
  record {
    below = omega arith;
    before = below_one _ (record { least = λ e. omega (arith, ints); greatest = λ e. omega (arith, ints) });
    fails = λ span. outside (span.least refl);
  },
)
  where
    outside : pos 1 ≤ℤ pos 0 → ⊥
    outside h = omega (arith, ints)

-- with a flow of 2 from B to C
abbrev sheet_with_two : {S : Type 0} → S → Sheet S
sheet_with_two own = record (worked_sheet own) { flows = record { low = 1; high = 2; amount = 2 } ∷ [] }

too_big : pos 2 ≤ℤ pos 1 → ⊥
too_big h = omega (arith, ints)

-- B's balance is 2, outside its span
example_flow_too_great : {S : Type 0} (own : S) → IsVerdict squares worked own (sheet_with_two own) (balance_outside 1)
example_flow_too_great own = (
  record {
    in_order = record {
      on_pairs = record {
        within_bounds = record {
          obedient = record {
            complete = record { sized = record { settings = refl; size = (refl, refl) }; complete = below_three _ refl refl refl };
            rises = below_two _ (omega (arith, ints)) (omega (arith, ints));
          };
          within = below_three _ (tt, tt) (tt, tt) (tt, tt);
        };
        on_pairs = below_one _ (1, omega arith, refl);
      };
      in_order = below_one _ tt;
    };
    tight = below_one _ refl;
  },
  record {
    below = omega arith;
    before = below_one _ (record { least = λ e. omega (arith, ints); greatest = λ e. omega (arith, ints) });
    fails = λ span. too_big (span.greatest refl);
  },
)

-- with a flow of 1 from A to B before it
abbrev sheet_with_untied_flow : {S : Type 0} → S → Sheet S
sheet_with_untied_flow own = record (worked_sheet own) { flows = record { low = 0; high = 1; amount = 1 } ∷ record { low = 1; high = 2; amount = 1 } ∷ [] }

not_same : pos 2 ≡ pos 5 → ⊥
not_same h = omega (arith, ints, h)

-- its ends have the values 1 and 5/2
example_untied_flow : {S : Type 0} (own : S) → IsVerdict squares worked own (sheet_with_untied_flow own) (flow_not_tight 1)
example_untied_flow own = (
  record {
    on_pairs = record {
      within_bounds = record {
        obedient = record {
          complete = record { sized = record { settings = refl; size = (refl, refl) }; complete = below_three _ refl refl refl };
          rises = below_two _ (omega (arith, ints)) (omega (arith, ints));
        };
        within = below_three _ (tt, tt) (tt, tt) (tt, tt);
      };
      on_pairs = below_two _ (0, omega arith, refl) (1, omega arith, refl);
    };
    in_order = below_two _ tt (record { first = 0; second = 1; rises = omega arith; first_pair = refl; second_pair = refl });
  },
  record { below = omega arith; before = λ k l. absurd (omega arith); fails = λ e. not_same e },
)
