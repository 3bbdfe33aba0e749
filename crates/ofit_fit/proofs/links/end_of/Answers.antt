use Rattle.std.proofs.Common.{ℕ, leb, arith, rules}
use Rattle.std.proofs.lemmas.Bool.{leb-true, leb-false}
use Rattle.std.proofs.lemmas.List.Sorted.{IsPartitionPoint-from_clause, IsPartitionedBy-leb}
use Rattle.ofit_fit.proofs.Searching.{rises_from_order}
use Rattle.ofit_fit.proofs.links.end_of.Goals as goal

pub returns : goal.returns
returns c =
    let parted = IsPartitionedBy-leb (λ (p : ℕ × ℕ). p.0) c.args.pairs.now c.args.place (rises_from_order c.args.pairs.now c.requires) in
    let point = IsPartitionPoint-from_clause (λ (p : ℕ × ℕ). leb p.0 c.args.place) c.args.pairs.now c.partition_point.result c.partition_point.ensures.partitioned parted (λ a r q k. search rules) in
    record {
      bound = c.partition_point.ensures.bound;
      before = λ k d l. leb-true _ _ (point.0 k d (omega arith) l);
      after = λ k d l m. leb-false _ _ (point.1 k d l m);
    }
