use Rattle.ofit_words.specs.declared.key.Key.TheVariants.{Lo, Hi}
use Rattle.ofit_words.specs.declared.setting.Value.TheVariants as value
use Rattle.ofit_study.specs.declared.loss.LossKind.TheVariants as loss
use Rattle.ofit_words.specs.declared.key.Key.TheVariants as key
use Rattle.std.proofs.Common.{refl, sym, subst}
use Rattle.ofit_study.specs.Loss.{IsListed}
use Rattle.ofit_words.specs.Values.{IsListedLoss}
use Rattle.ofit_words.proofs.Lookups.{in_force_found, bound_found, listed_found, bounded_found, loss_reads, lo_reads, hi_reads}
use Rattle.ofit_words.proofs.read.settings_of.Goals as goal

pub returns-clause-settings : goal.returns-clause-settings
returns-clause-settings g c =
    let p = c.args.force.places in
    let q = c.args.force.groups in
    record {
      loss = in_force_found IsListedLoss (λ x. value.Loss x) loss.Squares _ p q g.words key.Loss c.loss_in.result (loss_reads p q) (c.loss_in.ensures p q g.words c.requires.0) c.unwrap_or.ensures;
      places = c.requires.1.0.for_places;
      lo = bound_found (λ z. value.Bound z) _ p p q g.words Lo c.bound_at.result (lo_reads p q) (c.bound_at.ensures p q g.words c.requires.0) refl;
      hi = bound_found (λ z. value.Bound z) _ p p q g.words Hi c.bound_at-2.result (hi_reads p q) (c.bound_at-2.ensures p q g.words c.requires.0) refl;
    }

pub returns-clause-loss : goal.returns-clause-loss
returns-clause-loss g c =
    subst IsListed (sym c.unwrap_or.ensures) (listed_found c.args.force.places c.args.force.groups g.words c.loss_in.result (c.loss_in.ensures c.args.force.places c.args.force.groups g.words c.requires.0))

pub returns-clause-lo : goal.returns-clause-lo
returns-clause-lo g c =
    bounded_found c.args.force.places c.args.force.groups g.words Lo c.bound_at.result (lo_reads c.args.force.places c.args.force.groups) (c.bound_at.ensures c.args.force.places c.args.force.groups g.words c.requires.0)

pub returns-clause-hi : goal.returns-clause-hi
returns-clause-hi g c =
    bounded_found c.args.force.places c.args.force.groups g.words Hi c.bound_at-2.result (hi_reads c.args.force.places c.args.force.groups) (c.bound_at-2.ensures c.args.force.places c.args.force.groups g.words c.requires.0)
