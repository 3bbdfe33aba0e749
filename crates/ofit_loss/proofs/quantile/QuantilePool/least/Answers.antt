use Rattle.std.proofs.Common.{◌≡◌, arith, refl, to_z, of_z, subst, sym, false}
use Rattle.std.proofs.lemmas.Int.{ints}
use Rattle.std.specs.Int.{w64}
use Rattle.ofit_loss.specs.Quantile.{IsQuantile}
use Rattle.ofit_loss.proofs.QuantileLeast.{none_filled, top_within, top_is_quantile}
use Rattle.ofit_loss.proofs.Heaps.{not_both}
use Rattle.ofit_loss.proofs.quantile.QuantilePool.least.Goals as goal

pub unreachable-requires : goal.unreachable-requires
unreachable-requires c = none_filled c.args.self.now c.requires (λ l. not_both false (c.in-None.ensures.variant.1 (omega (arith, l, c.args.self.now.low.data.ok.0))) refl)

pub returns-clause-range : goal.returns-clause-range
returns-clause-range c = omega (
  arith,
  ints,
  top_within c.args.self.now c.in-Some.top.now (omega (arith, c.in-Some.ensures.variant.0 refl, c.args.self.now.low.data.ok.0)) c.in-Some.ensures.lookup c.requires,
)

pub returns-clause-quantile : goal.returns-clause-quantile
returns-clause-quantile c = λ above below rows h.
    let exact : to_z w64 (of_z w64 c.in-Some.top.now.value) ≡ c.in-Some.top.now.value = omega (arith, ints) in
    subst (IsQuantile above below rows) (sym exact)
    (top_is_quantile c.args.self.now c.in-Some.top.now (omega (arith, c.in-Some.ensures.variant.0 refl, c.args.self.now.low.data.ok.0)) c.in-Some.ensures.lookup (c.in-Some.ensures.greatest h.balanced.split.low_order) above below rows h)
