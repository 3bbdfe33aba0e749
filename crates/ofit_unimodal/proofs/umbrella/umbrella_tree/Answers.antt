use Rattle.std.proofs.Common.{◌≡◌, ◌∙◌, ◌++◌, ◌∷◌, [], ℕ, List, Option, ap, sym, subst, arith}
use Rattle.std.proofs.lemmas.List.FromFn.{map-range_with_len_more}
use Rattle.ofit_tree.specs.declared.direction.Direction.TheVariants.{RootGreatest}
use Rattle.ofit_tree.specs.Tree.{tree_pairs, IsRootedTree}
use Rattle.ofit_unimodal.specs.Umbrella.{umbrella_parent, umbrella_parents}
use Rattle.ofit_unimodal.proofs.UmbrellaTree.{rooted, same_pairs}
use Rattle.ofit_unimodal.proofs.umbrella.umbrella_tree.Goals as goal

pub loop-place-preserved : goal.loop-place-preserved
loop-place-preserved c =
    let more = map-range_with_len_more (umbrella_parent c.args.peak) 0 c.loop-place.place c.loop-place.place (omega arith) in
    c.in_ok-push.ensures.items ∙ ap (λ (t : List (Option ℕ)). t ++ c.parent_of.result ∷ []) c.loop-place.invariant ∙ ap (λ (o : Option ℕ). umbrella_parents c.args.peak c.loop-place.place ++ o ∷ []) c.parent_of.ensures ∙ sym more

pub returns-clause-parents : goal.returns-clause-parents
returns-clause-parents c =
    let all : c.loop-place.place ≡ c.args.places = omega (arith, c.loop-place-test.false) in
    c.loop-place.invariant ∙ ap (umbrella_parents c.args.peak) all

pub returns-clause-rooted : goal.returns-clause-rooted
returns-clause-rooted c =
    let all : c.loop-place.place ≡ c.args.places = omega (arith, c.loop-place-test.false) in
    subst IsRootedTree (sym (c.loop-place.invariant ∙ ap (umbrella_parents c.args.peak) all)) (rooted c.args.peak c.args.places c.requires.peak)

pub returns-clause-pairs : goal.returns-clause-pairs
returns-clause-pairs c =
    let all : c.loop-place.place ≡ c.args.places = omega (arith, c.loop-place-test.false) in
    ap (tree_pairs RootGreatest) (c.loop-place.invariant ∙ ap (umbrella_parents c.args.peak) all) ∙ same_pairs c.args.peak c.args.places c.requires.peak
