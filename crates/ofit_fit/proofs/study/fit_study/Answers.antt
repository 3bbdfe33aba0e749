use Rattle.std.proofs.Common.{sym, ◌∙◌}
use Rattle.ofit_study.proofs.Places.{group_count}
use Rattle.std.specs.Prelude.{Vec}
use Rattle.std.specs.Global.{Global}
use Rattle.std.proofs.lemmas.Result.{IfOk-weaker}
use Rattle.ofit_num.specs.declared.frac.Frac.{Frac}
use Rattle.ofit_num.specs.Fit.{LeastBestValues}
use Rattle.ofit_study.specs.Study.{problem_stated, meaning_of}
use Rattle.ofit_fit.proofs.Averaged.{stated_max_min}
use Rattle.ofit_fit.proofs.study.fit_study.Goals as goal

pub fit_components-requires-clause-order : goal.fit_components-requires-clause-order
fit_components-requires-clause-order c = record {
  places = c.in_ok-order.ensures.places ∙ sym (group_count c.args.study.now);
  in_order = c.in_ok-order.ensures.in_order;
  pairs = c.in_ok-order.ensures.same;
}

pub fit_components-requires-clause-as_long : goal.fit_components-requires-clause-as_long
fit_components-requires-clause-as_long c = c.in_ok-values.ensures ∙ c.group_count.ensures.count ∙ sym (group_count c.args.study.now)

pub returns-clause-max_min : goal.returns-clause-max_min
returns-clause-max_min c = λ kind free. IfOk-weaker c.fit_components.result _ _
    (λ (values : Vec Frac Global) (least : LeastBestValues (meaning_of c.args.study.now.settings.loss) (problem_stated c.args.study.now) values.items). stated_max_min c.args.study.now values.items kind free least) c.fit_components.ensures.least_best
