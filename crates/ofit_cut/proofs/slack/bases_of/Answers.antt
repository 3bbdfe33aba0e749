use Rattle.std.proofs.Common.{rules, ◌≡◌, ◌+◌, ◌∷◌, ◌++◌, [], ℤ, length, ap, sym, subst, ◌∙◌, length-append, FitsSigned, to_z, of_z}
use Rattle.std.proofs.lemmas.Int.{to_z-of_z}
use Rattle.std.specs.Int.{w128}
use Rattle.ofit_cut.specs.Span.{span_at}
use Rattle.ofit_cut.specs.Slack.{IsBase}
use Rattle.ofit_cut.proofs.Slacks.{base_more}
use Rattle.ofit_cut.proofs.slack.bases_of.Goals as goal

pub loop-span-preserved : goal.loop-span-preserved
loop-span-preserved c =
    let xs = c.loop-span.bases.items in
    let b : ℤ = to_z w128 (of_z w128 c.base.result) in
    let fits : FitsSigned w128 c.base.result = search rules in
    let long : length (xs ++ b ∷ []) ≡ length xs + 1 = length-append xs (b ∷ []) in
    record {
      counted = ap (length {A = ℤ}) c.in_ok-push.ensures.items ∙ long ∙ ap (λ (n : Prim.Native.Nat.ℕ). n + 1) c.loop-span.invariant.counted;
      each = base_more c.args.spans.now xs c.push.new.self.items c.loop-span.span-index b c.loop-span.invariant.counted c.in_ok-push.ensures.items c.loop-span.invariant.each
          (subst (IsBase (span_at c.args.spans.now c.loop-span.span-index)) (sym (to_z-of_z w128 c.base.result fits)) c.base.ensures);
    }
