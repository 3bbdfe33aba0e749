use Rattle.std.proofs.Common.{length}
use Rattle.ofit_study.proofs.Uses.{same_nat, not_only, use_told}
use Rattle.ofit_study.proofs.study.Study.is_in_use.Goals as goal

pub returns-then-rows_of-eq1 : goal.returns-then-rows_of-eq1
returns-then-rows_of-eq1 c =
    use_told c.args.self.now c.keeps_limits.ensures.valid c.args.name.now c.in-Some.place c.in-Some.ensures c.rows_of.result.now c.rows_of.ensures c.if-rows_of-eq1.true c.pairs_at.result.now c.pairs_at.ensures c.is_empty.result c.is_empty.ensures

pub returns-else-rows_of-eq1 : goal.returns-else-rows_of-eq1
returns-else-rows_of-eq1 c = (
  λ t. absurd (c.if-rows_of-eq1.false (same_nat (length c.rows_of.result.now) 1 t)),
  λ h. absurd (not_only c.args.self.now c.keeps_limits.ensures.valid c.args.name.now c.in-Some.place c.in-Some.ensures c.rows_of.result.now c.rows_of.ensures c.if-rows_of-eq1.false h),
)
