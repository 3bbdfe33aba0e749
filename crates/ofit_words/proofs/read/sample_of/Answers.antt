use Rattle.ofit_study.specs.declared.loss.LossKind.TheVariants as loss
use Rattle.ofit_words.specs.declared.job.Kind.TheVariants as kind
use Rattle.ofit_words.specs.declared.key.Key.TheVariants as key
use Rattle.ofit_words.specs.declared.setting.Value.TheVariants as value
use Rattle.ofit_words.specs.Values.{IsKind, IsListedLoss, IsNumberIn}
use Rattle.ofit_words.proofs.Lookups.{in_force_found, loss_reads, rows_reads, seed_reads, shape_reads}
use Rattle.ofit_words.proofs.read.sample_of.Goals as goal

pub returns-clause-value : goal.returns-clause-value
returns-clause-value g c =
    let p = c.args.force.places in
    let q = c.args.force.groups in
    let read = c.requires.0 in
    record {
      seed = in_force_found (IsNumberIn 0 4294967295) (λ n. value.Number n) 1 _ p q g.words key.Seed c.number_at.result (seed_reads p q) (c.number_at.ensures p q g.words read) c.unwrap_or.ensures;
      groups = c.requires.1.0.for_groups;
      rows = in_force_found (IsNumberIn q 10000) (λ n. value.Number n) q _ p q g.words key.Rows c.number_at-2.result (rows_reads p q) (c.number_at-2.ensures p q g.words read) c.unwrap_or-2.ensures;
      kind = in_force_found IsKind (λ x. value.Shape x) kind.General _ p q g.words key.Shape c.shape_in.result (shape_reads p q) (c.shape_in.ensures p q g.words read) c.unwrap_or-3.ensures;
      loss = in_force_found IsListedLoss (λ x. value.Loss x) loss.Squares _ p q g.words key.Loss c.loss_in.result (loss_reads p q) (c.loss_in.ensures p q g.words read) c.unwrap_or-4.ensures;
    }
