use Rattle.std.proofs.Common.{◌∙◌, ◌*◌, ◌^◌, ◌≤◌, ℕ, List, length, sym, ap, subst, arith}
use Rattle.std.specs.Prelude.{All}
use Rattle.ofit_cut.specs.declared.span.Span.{Span}
use Rattle.ofit_cut.specs.Sets.{AreWithin}
use Rattle.ofit_cut.specs.Span.{IsOrdered, total_span}
use Rattle.ofit_study.specs.Study.{places_of}
use Rattle.ofit_cert.specs.Tight.{tight_among}
use Rattle.ofit_study.proofs.Places.{group_count}
use Rattle.ofit_cert.proofs.Places.{tight_few}
use Rattle.ofit_cert.proofs.Ready.{pairs_ready, ordered_ready, small_ready}
use Rattle.ofit_cert.proofs.certificate.balance_of.Goals as goal

pub balance_flow-requires-clause-pairs_in : goal.balance_flow-requires-clause-pairs_in
balance_flow-requires-clause-pairs_in c =
    let s = c.args.study.now in
    let v = c.keeps_limits.ensures.valid in
    let e = c.in_ok-spans.ensures in
    subst (λ (pairs : List (ℕ × ℕ)). AreWithin pairs (length c.as_slice.result.now)) (sym c.requires.tight)
    (subst (λ (spans : List Span). AreWithin (tight_among c.args.values.now (places_of s)) (length spans)) (sym c.as_slice.ensures.value) (pairs_ready s v c.args.values.now e.fractions (c.requires.as_long ∙ sym (group_count c.args.study.now)) c.in_ok-spans.spans.items e.spans))

pub balance_flow-requires-clause-few_pairs : goal.balance_flow-requires-clause-few_pairs
balance_flow-requires-clause-few_pairs c = omega (arith, ap length c.requires.tight, tight_few c.args.study.now c.keeps_limits.ensures.valid c.args.values.now)

pub balance_flow-requires-clause-ordered : goal.balance_flow-requires-clause-ordered
balance_flow-requires-clause-ordered c =
    let e = c.in_ok-spans.ensures in
    subst (All IsOrdered) (sym c.as_slice.ensures.value) (ordered_ready c.args.study.now c.keeps_limits.ensures.valid c.args.values.now e.fractions (c.requires.as_long ∙ sym (group_count c.args.study.now)) c.in_ok-spans.spans.items e.spans)

pub balance_flow-requires-clause-small : goal.balance_flow-requires-clause-small
balance_flow-requires-clause-small c =
    let e = c.in_ok-spans.ensures in
    subst (λ (spans : List Span). total_span spans ≤ 2 * 10 ^ 33) (sym c.as_slice.ensures.value) (small_ready c.args.study.now c.keeps_limits.ensures.valid c.args.values.now e.fractions (c.requires.as_long ∙ sym (group_count c.args.study.now)) c.in_ok-spans.spans.items e.spans)
