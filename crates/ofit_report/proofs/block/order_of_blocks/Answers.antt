use Rattle.std.proofs.Common.{◌≡◌, ◌↔◌, ◌∙◌, ℕ, length}
use Rattle.std.specs.List.{Contains}
use Rattle.ofit_study.specs.Study.{names_of, places_of}
use Rattle.ofit_report.specs.Tight.{tight_among}
use Rattle.ofit_report.specs.Blocks.{block_order}
use Rattle.ofit_report.specs.SameOrder.{IsSameOrder}
use Rattle.ofit_report.proofs.Places.{tight_within, same_pairs}
use Rattle.ofit_report.proofs.Results.{both_ok}
use Rattle.ofit_report.proofs.block.order_of_blocks.Goals as goal

pub check_order-requires : goal.check_order-requires
check_order-requires c =
    tight_within c.args.study.now c.group_count.ensures.valid c.args.values.now c.as_slice.result.now c.group_count.result (c.as_slice.ensures.value ∙ c.in_ok-pairs.ensures) c.group_count.ensures.count

pub returns : goal.returns
returns c =
    both_ok c.check_order.result (λ order. order.places ≡ c.group_count.result) (λ order. (p : ℕ × ℕ) → Contains order.pairs p ↔ Contains c.as_slice.result.now p)
    (λ order. IsSameOrder order (block_order c.args.study.now c.args.values.now))
    (λ order count same. same_pairs order (length (names_of c.args.study.now)) c.as_slice.result.now (tight_among c.args.values.now (places_of c.args.study.now)) (count ∙ c.group_count.ensures.count) (c.as_slice.ensures.value ∙ c.in_ok-pairs.ensures) same)
    c.check_order.ensures.places c.check_order.ensures.same
