use Rattle.std.proofs.Common.{ℕ, ◌≡◌, ◌<◌, refl, arith, subst, sym, length, get_or}
use Rattle.std.specs.List.{Contains}
use Rattle.std.proofs.lemmas.Bool.Decides.{nat_tests}
use Rattle.std.proofs.lemmas.List.Elements.{Contains-get_or}
use Rattle.ofit_fit.proofs.links.link_up.Goals as goal

pub position_of-requires-clause-member : goal.position_of-requires-clause-member
position_of-requires-clause-member c =
    let some : 0 < length c.pairs_above-above.result.now = grind (arith, nat_tests) in
    let e : ℕ × ℕ = get_or c.pairs_above-above.result.now 0 (0, 0) in
    let p = (c.pairs_above-above.ensures.above e).0 (Contains-get_or c.pairs_above-above.result.now 0 (0, 0) some) in
    c.requires.closed e.1 (subst (λ (g : ℕ). Contains c.args.pairs.now (g, e.1)) p.1 p.0)

pub returns-then-is_empty : goal.returns-then-is_empty
returns-then-is_empty c = λ b h.
    let none : length c.pairs_above-above.result.now ≡ 0 = grind (arith, nat_tests) in
    let x = (c.pairs_above-above.ensures.above (c.args.place, b)).1 (h, refl) in
    omega (arith, none, x.1)

pub returns-else-is_empty : goal.returns-else-is_empty
returns-else-is_empty c =
    let some : 0 < length c.pairs_above-above.result.now = grind (arith, nat_tests) in
    let e : ℕ × ℕ = get_or c.pairs_above-above.result.now 0 (0, 0) in
    let p = (c.pairs_above-above.ensures.above e).0 (Contains-get_or c.pairs_above-above.result.now 0 (0, 0) some) in (
      c.position_of.ensures.inside,
      subst (λ (g : ℕ). Contains c.args.pairs.now (c.args.place, g)) (sym c.position_of.ensures.at) (subst (λ (g : ℕ). Contains c.args.pairs.now (g, e.1)) p.1 p.0),
    )
