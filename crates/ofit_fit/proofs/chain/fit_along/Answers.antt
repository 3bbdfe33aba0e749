use Rattle.std.proofs.Common.{◌≡◌, ◌<◌, arith, List, map, length, slice_index, subst, sym, ap, ◌∙◌}
use Rattle.std.proofs.lemmas.List.{length-map}
use Rattle.std.specs.Prelude.{All}
use Rattle.ofit_num.specs.declared.row.Row.{Row}
use Rattle.ofit_num.specs.RowTotals.{all_rows}
use Rattle.ofit_loss.specs.Rows.{AreFittable}
use Rattle.ofit_study.specs.Study.{groups_of, names_of, rows_named, problem_stated}
use Rattle.ofit_fit.proofs.Taken.{taken_filled, taken_fittable}
use Rattle.ofit_fit.proofs.Chained.{along_inside, along_once}
use Rattle.ofit_fit.proofs.chain.fit_along.Goals as goal

pub groups_at-requires-clause-inside : goal.groups_at-requires-clause-inside
groups_at-requires-clause-inside g c =
    let at = c.as_slice.ensures.value ∙ c.in_ok-places.ensures in
    let all : All (λ p. p < length (groups_of c.args.study.now)) c.as_slice.result.now = subst (All (λ p. p < length (groups_of c.args.study.now))) (sym at) (along_inside c.args.members.now c.args.path.now (length (groups_of c.args.study.now)) c.requires.members c.requires.path) in
    λ k d l. omega (arith, all k d l, length-map (names_of c.args.study.now) (rows_named c.args.study.now.rows))

pub groups_at-requires-clause-few : goal.groups_at-requires-clause-few
groups_at-requires-clause-few g c = omega (arith, ap length (c.as_slice.ensures.value ∙ c.in_ok-places.ensures), length-map c.args.path.now (slice_index c.args.members.now), c.requires.few)

pub fit_chain-requires-clause-filled : goal.fit_chain-requires-clause-filled
fit_chain-requires-clause-filled g c =
    let is = c.in_ok-groups.ensures ∙ ap (map (problem_stated c.args.study.now).rows) (c.as_slice.ensures.value ∙ c.in_ok-places.ensures) in
    subst (All (λ (rows : List Row). 0 < length rows)) (sym is)
    (taken_filled (groups_of c.args.study.now) (map (slice_index c.args.members.now) c.args.path.now) c.requires.filled (along_inside c.args.members.now c.args.path.now (length (groups_of c.args.study.now)) c.requires.members c.requires.path))

pub fit_chain-requires-clause-fittable : goal.fit_chain-requires-clause-fittable
fit_chain-requires-clause-fittable g c =
    let is = c.in_ok-groups.ensures ∙ ap (map (problem_stated c.args.study.now).rows) (c.as_slice.ensures.value ∙ c.in_ok-places.ensures) in
    subst (λ (gs : List (List Row)). AreFittable (all_rows gs)) (sym is)
    (taken_fittable (groups_of c.args.study.now) (map (slice_index c.args.members.now) c.args.path.now) c.requires.fittable (along_once c.args.members.now c.args.path.now c.requires.once)
    (along_inside c.args.members.now c.args.path.now (length (groups_of c.args.study.now)) c.requires.members c.requires.path))

pub returns-clause-count : goal.returns-clause-count
returns-clause-count g c =
    let is = c.in_ok-groups.ensures ∙ ap (map (problem_stated c.args.study.now).rows) (c.as_slice.ensures.value ∙ c.in_ok-places.ensures) in
    let n : length c.in_ok-groups.groups ≡ length c.args.path.now =
    ap (λ (gs : List (List Row)). length gs) is ∙ length-map (map (slice_index c.args.members.now) c.args.path.now) (problem_stated c.args.study.now).rows ∙ length-map c.args.path.now (slice_index c.args.members.now) in
    rw n at c.fit_chain.ensures.count

pub returns-clause-least_best : goal.returns-clause-least_best
returns-clause-least_best g c =
    let is = c.in_ok-groups.ensures ∙ ap (map (problem_stated c.args.study.now).rows) (c.as_slice.ensures.value ∙ c.in_ok-places.ensures) in
    rw is at c.fit_chain.ensures.least_best
