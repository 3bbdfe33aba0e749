use Rattle.ofit_num.specs.Unbounded.{without_bounds}
use Rattle.std.proofs.Common.{rules, ◌≡◌, ℕ, List, subst}
use Rattle.std.specs.Prelude.{IfOk}
use Rattle.ofit_num.specs.Meaning.{Meaning}
use Rattle.ofit_num.specs.Loss.{squares, median}
use Rattle.ofit_num.specs.Fit.{LeastBestValues}
use Rattle.ofit_order.specs.Component.{AreMembers}
use Rattle.ofit_study.specs.Study.{meaning_of, problem_stated}
use Rattle.ofit_fit.specs.Part.{part_of}
use Rattle.ofit_fit.proofs.component.fit_free.Goals as goal

pub returns-in-Squares-clause-least_best : goal.returns-in-Squares-clause-least_best
returns-in-Squares-clause-least_best c =
    let m : Meaning = meaning_of c.args.study.now.settings.loss in
    let same : squares ≡ m = search rules in
    subst (λ (l : Meaning). IfOk c.fit_form.result (λ values. (members : List ℕ) → AreMembers c.args.order.now c.args.component members → LeastBestValues l (part_of (without_bounds (problem_stated c.args.study.now)) members) values.items)) same c.fit_form.ensures.least_best

pub returns-in-Median-clause-least_best : goal.returns-in-Median-clause-least_best
returns-in-Median-clause-least_best c =
    let m : Meaning = meaning_of c.args.study.now.settings.loss in
    let same : median ≡ m = search rules in
    subst (λ (l : Meaning). IfOk c.fit_form-in-Median.result (λ values. (members : List ℕ) → AreMembers c.args.order.now c.args.component members → LeastBestValues l (part_of (without_bounds (problem_stated c.args.study.now)) members) values.items)) same c.fit_form-in-Median.ensures.least_best
