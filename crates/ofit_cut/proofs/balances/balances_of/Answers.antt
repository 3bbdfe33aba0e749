use Rattle.std.proofs.Common.{rules, arith, ◌≡◌, ℕ, ◌<◌, List, length, take, ap, refl, subst, FitsSigned, to_z, of_z}
use Rattle.std.proofs.lemmas.Int.{to_z-of_z}
use Rattle.std.proofs.Math.ListN.{length-set}
use Rattle.std.proofs.lemmas.List.{take_all}
use Rattle.std.proofs.lemmas.List.Elements.{All-get_or}
use Rattle.std.specs.Int.{w128}
use Rattle.ofit_cut.specs.Sets.{AreWithin, weight_at}
use Rattle.ofit_cut.specs.Balance.{pair_at}
use Rattle.ofit_cut.specs.Balances.{AreBalances}
use Rattle.ofit_cut.proofs.Shifts.{pair_more}
use Rattle.ofit_cut.proofs.balances.balances_of.Goals as goal

ends_at : (pairs : List (ℕ × ℕ)) (nodes k : ℕ) → AreWithin pairs nodes → k < length pairs → ((pair_at pairs k).0 < nodes) × ((pair_at pairs k).1 < nodes)
ends_at pairs nodes k within l = All-get_or (λ (pair : ℕ × ℕ). (pair.0 < nodes) × (pair.1 < nodes)) pairs k (0, 0) l within

pub raise-requires : goal.raise-requires
raise-requires c = omega (arith, (ends_at c.args.pairs.now c.args.nodes c.loop-index.index c.requires.pairs_in c.loop-index-test.true).0, c.loop-index.invariant.counted)

pub loop-index-preserved : goal.loop-index-preserved
loop-index-preserved c =
    let pairs = c.args.pairs.now in
    let amounts = c.args.amounts.now in
    let nodes = c.args.nodes in
    let k = c.loop-index.index in
    let fits : FitsSigned w128 (weight_at c.args.amounts.now c.loop-index.index) = search rules in
    let ends = ends_at pairs nodes k c.requires.pairs_in (omega arith) in
    pair_more nodes k pairs amounts c.loop-index.balances.items c.raise.new.balances.items c.lower.new.balances.items (to_z w128 (of_z w128 (weight_at amounts k)))
    (omega arith) (omega arith) ends.0 ends.1 (to_z-of_z w128 (weight_at amounts k) fits) c.loop-index.invariant (c.if-not-raise.ensures refl) (c.if-not-lower.ensures refl)

pub lower-requires : goal.lower-requires
lower-requires c =
    let raised = simp length-set at (ap length (c.if-not-raise.ensures refl)) in
    omega (arith, (ends_at c.args.pairs.now c.args.nodes c.loop-index.index c.requires.pairs_in c.loop-index-test.true).1, c.loop-index.invariant.counted, raised)

pub returns : goal.returns
returns c =
    let all : take c.loop-index.index c.args.pairs.now ≡ c.args.pairs.now = take_all c.loop-index.index c.args.pairs.now (omega arith) in
    let of_all : take c.loop-index.index c.args.amounts.now ≡ c.args.amounts.now = take_all c.loop-index.index c.args.amounts.now (omega arith) in
    subst (λ pairs. AreBalances c.args.nodes pairs c.args.amounts.now c.loop-index.balances.items) all
    (subst (λ amounts. AreBalances c.args.nodes (take c.loop-index.index c.args.pairs.now) amounts c.loop-index.balances.items) of_all c.loop-index.invariant)
