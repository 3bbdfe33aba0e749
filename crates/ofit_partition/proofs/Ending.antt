-- the values of all places are the fit
use Rattle.std.proofs.Common.{◌≡◌, ℕ, ◌<◌, refl, subst, Bool, false, List, [], length}
use Rattle.std.specs.Prelude.{All, Option, Result, Ok, Err, Vec, IfOk}
use Rattle.std.specs.Global.{Global}
use Rattle.ofit_num.specs.Groups.{RowLists}
use Rattle.ofit_num.specs.Meaning.{Meaning}
use Rattle.ofit_num.specs.Fraction.{Fraction}
use Rattle.ofit_num.specs.Trial.{trial_of}
use Rattle.ofit_num.specs.Fit.{LeastBestValues}
use Rattle.ofit_num.specs.RowTotals.{all_rows}
use Rattle.ofit_num.specs.Settled.{IsSettled, IsLeastSettled}
use Rattle.ofit_num.specs.Level.{AreLevels}
use Rattle.ofit_num.proofs.Levels.{levels_settled, levels_least_settled, levels_least_best}
use Rattle.ofit_loss.specs.Rows.{AreFittable}
use Rattle.ofit_loss.specs.Laws.{HasLossLaws}
use Rattle.ofit_loss.proofs.ProblemLaws.{some_degree}
use Rattle.ofit_partition.specs.Piece.{partition_problem}
use Rattle.ofit_partition.specs.Work.{IsWork, AreValues}
use Rattle.ofit_partition.proofs.Cutting.{order_falling, order_support, order_scaling}
use Rattle.ofit_partition.proofs.Works.{all_levels}

module _ {E : Type 0} (m : Meaning) (strict : Bool) (laws : HasLossLaws m strict) (groups : RowLists) (pairs : List (ℕ × ℕ)) (fit : AreFittable (all_rows groups)) (places : All (λ e. (e.0 < length groups) × (e.1 < length groups)) pairs)
    (settled : List (Option Fraction)) (h : IsWork m (partition_problem groups pairs) strict [] settled) (result : Result (Vec Fraction Global) E) (read : List (Option Fraction)) (same : read ≡ settled) where
  levels : (values : List Fraction) → AreValues (length read) read values → AreLevels m (partition_problem groups pairs) strict h.label h.top values
  levels values are = all_levels m (partition_problem groups pairs) strict places settled h values (subst (λ (xs : List (Option Fraction)). AreValues (length xs) xs values) same are)

  each : {P Q : Vec Fraction Global → Type 0} → ((v : Vec Fraction Global) → P v → Q v) → (r : Result (Vec Fraction Global) E) → IfOk r P → IfOk r Q
  each {P} {Q} f (Ok v) p = f v p
  each {P} {Q} f (Err e) p = tt

  pub fit_least_best : IfOk result (λ values. AreValues (length read) read values.items) → IfOk result (λ values. LeastBestValues m (partition_problem groups pairs) values.items)
  fit_least_best are = each {P = λ values. AreValues (length read) read values.items} {Q = λ values. LeastBestValues m (partition_problem groups pairs) values.items}
      (λ values k. levels_least_best m (partition_problem groups pairs) strict (order_falling m strict laws groups pairs fit) places (λ g. refl) h.label h.top values.items (levels values.items k)
      (order_support m strict laws groups pairs fit) (order_scaling m strict laws groups pairs fit) (some_degree m strict laws)) result are

  pub fit_settled : IfOk result (λ values. AreValues (length read) read values.items) → IfOk result (λ values. IsSettled m (partition_problem groups pairs) (trial_of values.items))
  fit_settled are = each {P = λ values. AreValues (length read) read values.items} {Q = λ values. IsSettled m (partition_problem groups pairs) (trial_of values.items)}
      (λ values k. levels_settled m (partition_problem groups pairs) strict (order_falling m strict laws groups pairs fit) places (λ g. refl) h.label h.top values.items (levels values.items k)) result are

  pub fit_least_settled : IfOk result (λ values. AreValues (length read) read values.items) → IfOk result (λ values. strict ≡ false → IsLeastSettled m (partition_problem groups pairs) (trial_of values.items))
  fit_least_settled are = each {P = λ values. AreValues (length read) read values.items} {Q = λ values. strict ≡ false → IsLeastSettled m (partition_problem groups pairs) (trial_of values.items)}
      (λ values k. levels_least_settled m (partition_problem groups pairs) strict (order_falling m strict laws groups pairs fit) places (λ g. refl) h.label h.top values.items (levels values.items k)) result are
