use Rattle.std.proofs.Common.{ℕ, ltb, arith, rules}
use Rattle.std.proofs.lemmas.Bool.{ltb-true, ltb-false}
use Rattle.std.proofs.lemmas.List.Sorted.{IsPartitionPoint-from_clause, IsPartitionedBy-ltb}
use Rattle.ofit_num.specs.declared.row.Row.{Row}
use Rattle.ofit_study.proofs.Bisecting.{rises}
use Rattle.ofit_study.proofs.groups.rows_below.Goals as goal

pub returns : goal.returns
returns c =
    let number : Row → ℕ = λ r. r.number in
    let parted = IsPartitionedBy-ltb number c.args.rows.now c.args.number (rises number c.args.rows.now c.requires) in
    let point = IsPartitionPoint-from_clause (λ (r : Row). ltb r.number c.args.number) c.args.rows.now c.partition_point.result c.partition_point.ensures.partitioned parted (λ a r q k. search rules) in
    record {
      inside = c.partition_point.ensures.bound;
      below = λ k d l. ltb-true _ _ (point.0 k d (omega arith) l);
      from = λ k d l m. ltb-false _ _ (point.1 k d l m);
    }
