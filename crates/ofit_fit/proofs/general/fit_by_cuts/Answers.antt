use Rattle.ofit_num.specs.Unbounded.{without_bounds}
use Rattle.std.proofs.Common.{ℕ, ◌<◌, ◌↔◌, arith, refl, List, map, length, subst, sym, ap}
use Rattle.std.proofs.lemmas.Result.{IfOk-weaker}
use Rattle.std.proofs.lemmas.List.{length-map}
use Rattle.std.specs.Prelude.{All, Any, Vec}
use Rattle.std.specs.Global.{Global}
use Rattle.std.specs.List.{Contains}
use Rattle.ofit_num.specs.declared.row.Row.{Row}
use Rattle.ofit_num.specs.declared.frac.Frac.{Frac}
use Rattle.ofit_num.specs.RowTotals.{all_rows}
use Rattle.ofit_num.specs.Fit.{LeastBestValues}
use Rattle.ofit_loss.specs.Rows.{AreFittable, IsPlain}
use Rattle.ofit_study.specs.Study.{groups_of, problem_stated}
use Rattle.ofit_partition.specs.Piece.{partition_problem}
use Rattle.ofit_fit.specs.Links.{AreWholeMembers}
use Rattle.ofit_fit.proofs.Closed.{distinct_from_increasing}
use Rattle.ofit_fit.proofs.Taken.{taken_fittable}
use Rattle.ofit_fit.proofs.Ready.{few_members, scaling, places_closed, whole_members}
use Rattle.ofit_fit.proofs.Generals.{taken_each, between_places, fitted_between}
use Rattle.ofit_fit.proofs.general.fit_by_cuts.Goals as goal

pub pairs_between-requires : goal.pairs_between-requires
pairs_between-requires g c = subst (λ (ps : List (ℕ × ℕ)). AreWholeMembers ps c.args.members.now) (sym c.pairs.ensures) (whole_members c.args.study.now c.args.order.now c.requires.study c.args.members.now c.requires.places)

pub partition-requires-clause-plain : goal.partition-requires-clause-plain
partition-requires-clause-plain g c = subst (All (λ (rows : List Row). Any IsPlain rows)) (sym c.in_ok-groups.ensures) (taken_each (λ (rows : List Row). Any IsPlain rows) (groups_of c.args.study.now) c.args.members.now c.requires.study.plain c.requires.places.inside)

pub partition-requires-clause-fittable : goal.partition-requires-clause-fittable
partition-requires-clause-fittable g c = subst (λ (gs : List (List Row)). AreFittable (all_rows gs)) (sym c.in_ok-groups.ensures)
    (taken_fittable (groups_of c.args.study.now) c.args.members.now c.requires.study.fittable (distinct_from_increasing c.args.members.now c.requires.places.rising) c.requires.places.inside)

pub partition-requires-clause-few_groups : goal.partition-requires-clause-few_groups
partition-requires-clause-few_groups g c = omega (
  arith,
  ap length c.in_ok-groups.ensures,
  length-map c.args.members.now (without_bounds (problem_stated c.args.study.now)).rows,
  few_members c.args.members.now (length (groups_of c.args.study.now)) c.requires.places.rising c.requires.places.inside,
  c.requires.study.few_groups,
)

pub partition-requires-clause-few_pairs : goal.partition-requires-clause-few_pairs
partition-requires-clause-few_pairs g c = omega (arith, ap length c.deref.ensures.value, c.in_ok-pairs.ensures.few, ap length c.pairs.ensures, c.requires.study.few_pairs)

pub partition-requires-clause-places : goal.partition-requires-clause-places
partition-requires-clause-places g c =
    let members = c.args.members.now in
    let s = without_bounds (problem_stated c.args.study.now) in
    let same_pairs : (e : ℕ × ℕ) → Contains c.pairs.result.now e ↔ Contains s.pairs e = subst (λ (qs : List (ℕ × ℕ)). (e : ℕ × ℕ) → Contains qs e ↔ Contains s.pairs e) (sym c.pairs.ensures) c.requires.study.of.pairs in
    subst (λ (gs : List (List Row)). All (λ (e : ℕ × ℕ). (e.0 < length gs) × (e.1 < length gs)) c.deref.result.now) (sym c.in_ok-groups.ensures)
    (subst (All (λ (e : ℕ × ℕ). (e.0 < length (map s.rows members)) × (e.1 < length (map s.rows members)))) (sym c.deref.ensures.value)
    (between_places s (λ g. refl) c.pairs.result.now same_pairs members (places_closed c.args.study.now c.args.order.now c.requires.study members c.requires.places) c.in_ok-pairs.pairs.items c.in_ok-pairs.ensures))

pub returns-clause-least_best : goal.returns-clause-least_best
returns-clause-least_best g c =
    let members = c.args.members.now in
    let s = without_bounds (problem_stated c.args.study.now) in
    let same_pairs : (e : ℕ × ℕ) → Contains c.pairs.result.now e ↔ Contains s.pairs e = subst (λ (qs : List (ℕ × ℕ)). (e : ℕ × ℕ) → Contains qs e ↔ Contains s.pairs e) (sym c.pairs.ensures) c.requires.study.of.pairs in
    IfOk-weaker c.partition.result _ _
    (λ (values : Vec Frac Global) (low : LeastBestValues g.L.Loss.meaning (partition_problem c.in_ok-groups.groups c.deref.result.now) values.items).
    fitted_between s (λ g. refl) c.pairs.result.now same_pairs members (places_closed c.args.study.now c.args.order.now c.requires.study members c.requires.places) c.in_ok-pairs.pairs.items c.in_ok-pairs.ensures
    g.L.Loss.meaning (scaling c.args.study.now c.args.order.now c.requires.study g.L.Loss.meaning g.L.Loss.STRICT g.met.L.Loss.laws) values.items
    (subst (λ (ps : List (ℕ × ℕ)). LeastBestValues g.L.Loss.meaning (partition_problem (map s.rows members) ps) values.items) c.deref.ensures.value
    (subst (λ (gs : List (List Row)). LeastBestValues g.L.Loss.meaning (partition_problem gs c.deref.result.now) values.items) c.in_ok-groups.ensures low)))
    c.partition.ensures.least_best
