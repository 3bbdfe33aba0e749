use Rattle.std.proofs.Common.{◌≡◌, List, ℕ, ◌++◌, ◌∷◌, [], ap, sym, ◌∙◌, append_assoc, refl}
use Rattle.ofit_num.proofs.Runs.{all_more}
use Rattle.ofit_num.proofs.decimal.digits.after_spaces.Goals as goal

pub loop-first-preserved : goal.loop-first-preserved
loop-first-preserved c =
    let so_far = c.loop-first.invariant in (
      so_far.0 ++ 32 ∷ [],
      all_more (λ b. b ≡ 32) so_far.0 32 so_far.1 refl,
      so_far.2 ∙ ap (λ (r : List ℕ). so_far.0 ++ r) (c.in-Some.ensures.cases.0 ∙ ap (λ (b : ℕ). b ∷ c.in-Some.others.now) c.if-first-ne32.false) ∙ sym (append_assoc so_far.0 (32 ∷ []) c.in-Some.others.now),
    )
