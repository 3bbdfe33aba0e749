use Rattle.std.proofs.Common.{◌≡◌, ◌∙◌, ◌++◌, ◌∷◌, [], ℕ, suc, ◌+◌, List, map, ap, sym, arith}
use Rattle.std.proofs.lemmas.List.FromFn.{map-range_with_len_more}
use Rattle.std.specs.List.{range_with_len}
use Rattle.ofit_study.specs.Study.{problem_stated}
use Rattle.ofit_study.proofs.Places.{group_count}
use Rattle.ofit_unimodal.specs.Costs.{split_cost}
use Rattle.ofit_unimodal.proofs.cost.split_costs.Goals as goal

pub loop-place-preserved : goal.loop-place-preserved
loop-place-preserved c =
    let f = split_cost (problem_stated c.args.study.now) c.args.rises.now c.args.falls.now in
    let i = c.loop-place.place in
    let more = map-range_with_len_more f 0 i i (omega arith) in
    let own : c.cost_of_rise.result + c.cost_of_fall.result ≡ f i = omega (arith, c.cost_of_rise.ensures.exact, c.cost_of_fall.ensures.exact) in
    c.in_ok-push.ensures.items ∙ ap (λ (t : List ℕ). t ++ (c.cost_of_rise.result + c.cost_of_fall.result) ∷ []) c.loop-place.invariant ∙ ap (λ (x : ℕ). map f (range_with_len 0 i) ++ x ∷ []) own ∙ sym more

pub returns : goal.returns
returns c =
    let f = split_cost (problem_stated c.args.study.now) c.args.rises.now c.args.falls.now in
    let all : c.loop-place.place ≡ suc (problem_stated c.args.study.now).count = omega (arith, c.loop-place-test.false, c.group_count-place-end.ensures.count, group_count c.args.study.now) in
    c.loop-place.invariant ∙ ap (λ (n : ℕ). map f (range_with_len 0 n)) all
