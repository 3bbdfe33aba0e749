use Rattle.ofit_num.specs.Unbounded.{without_bounds}
use Rattle.std.proofs.Common.{ℕ, refl, ◌<◌, ◌↔◌, List, length, subst, sym}
use Rattle.std.proofs.lemmas.Result.{IfOk-weaker}
use Rattle.std.specs.Prelude.{All, Vec, Option}
use Rattle.std.specs.Global.{Global}
use Rattle.std.specs.List.{Contains}
use Rattle.ofit_num.specs.declared.row.Row.{Row}
use Rattle.ofit_num.specs.declared.frac.Frac.{Frac}
use Rattle.ofit_num.specs.RowTotals.{all_rows}
use Rattle.ofit_num.specs.Fit.{LeastBestValues}
use Rattle.ofit_order.specs.Shape.{RunsTo}
use Rattle.ofit_loss.specs.Rows.{AreFittable}
use Rattle.ofit_study.specs.Study.{groups_of, problem_stated}
use Rattle.ofit_tree.specs.Tree.{tree_problem}
use Rattle.ofit_fit.specs.Links.{AreLinks, AreWholeMembers}
use Rattle.ofit_fit.specs.Direct.{Leads}
use Rattle.ofit_fit.proofs.Closed.{distinct_from_increasing}
use Rattle.ofit_fit.proofs.Taken.{taken_filled, taken_fittable}
use Rattle.ofit_fit.proofs.Ready.{scaling, places_closed, whole_members}
use Rattle.ofit_fit.proofs.TreeParts.{rooted, treed}
use Rattle.ofit_fit.proofs.tree.fit_as_tree.Goals as goal

pub parents_of-requires : goal.parents_of-requires
parents_of-requires g c = subst (λ (ps : List (ℕ × ℕ)). AreWholeMembers ps c.args.members.now) (sym c.pairs.ensures) (whole_members c.args.study.now c.args.order.now c.requires.study c.args.members.now c.requires.places)

pub fit_tree-requires-clause-filled : goal.fit_tree-requires-clause-filled
fit_tree-requires-clause-filled g c = subst (All (λ (rows : List Row). 0 < length rows)) (sym c.in_ok-groups.ensures) (taken_filled (groups_of c.args.study.now) c.args.members.now c.requires.study.filled c.requires.places.inside)

pub fit_tree-requires-clause-fittable : goal.fit_tree-requires-clause-fittable
fit_tree-requires-clause-fittable g c = subst (λ (gs : List (List Row)). AreFittable (all_rows gs)) (sym c.in_ok-groups.ensures)
    (taken_fittable (groups_of c.args.study.now) c.args.members.now c.requires.study.fittable (distinct_from_increasing c.args.members.now c.requires.places.rising) c.requires.places.inside)

pub fit_tree-requires-clause-rooted : goal.fit_tree-requires-clause-rooted
fit_tree-requires-clause-rooted g c =
    let ps = c.pairs.result.now in
    let members = c.args.members.now in
    let runs = subst (λ (qs : List (ℕ × ℕ)). RunsTo (Leads c.args.direction qs) members c.requires.tree.0) (sym c.pairs.ensures) c.requires.tree.1 in
    rooted (Leads c.args.direction ps) members c.as_slice.result.now (subst (λ (ls : List (Option ℕ)). AreLinks (Leads c.args.direction ps) members ls) (sym c.as_slice.ensures.value) c.in_ok-parents.ensures)
    (distinct_from_increasing members c.requires.places.rising) c.requires.tree.0 runs

pub returns : goal.returns
returns g c =
    let ps = c.pairs.result.now in
    let members = c.args.members.now in
    let s = without_bounds (problem_stated c.args.study.now) in
    let runs = subst (λ (qs : List (ℕ × ℕ)). RunsTo (Leads c.args.direction qs) members c.requires.tree.0) (sym c.pairs.ensures) c.requires.tree.1 in
    let links = subst (λ (ls : List (Option ℕ)). AreLinks (Leads c.args.direction ps) members ls) (sym c.as_slice.ensures.value) c.in_ok-parents.ensures in
    let same_pairs : (e : ℕ × ℕ) → Contains ps e ↔ Contains s.pairs e = subst (λ (qs : List (ℕ × ℕ)). (e : ℕ × ℕ) → Contains qs e ↔ Contains s.pairs e) (sym c.pairs.ensures) c.requires.study.of.pairs in
    IfOk-weaker c.fit_tree.result _ _
    (λ (values : Vec Frac Global) (low : LeastBestValues g.L.Loss.meaning (tree_problem c.args.direction c.in_ok-groups.groups c.as_slice.result.now) values.items).
    treed s (λ g. refl) ps same_pairs members (places_closed c.args.study.now c.args.order.now c.requires.study members c.requires.places) c.args.direction c.as_slice.result.now links c.requires.tree.0 runs
    g.L.Loss.meaning (scaling c.args.study.now c.args.order.now c.requires.study g.L.Loss.meaning g.L.Loss.STRICT g.met.L.Loss.laws) values.items
    (subst (λ (gs : List (List Row)). LeastBestValues g.L.Loss.meaning (tree_problem c.args.direction gs c.as_slice.result.now) values.items) c.in_ok-groups.ensures low))
    c.fit_tree.ensures.least_best
