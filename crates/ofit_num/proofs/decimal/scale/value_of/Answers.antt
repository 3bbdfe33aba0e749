use Rattle.std.proofs.Common.{◌≡◌, ◌++◌, ◌*◌, ◌^◌, ◌<◌, ◌≤◌, ℕ, arith, ap, sym, ◌∙◌, subst}
use Rattle.std.specs.Prelude.{MatchOption}
use Rattle.ofit_num.specs.NumberText.{IsDigit, spelled_after}
use Rattle.ofit_num.proofs.Runs.{all_back}
use Rattle.ofit_num.proofs.Scaled.{past_more}
use Rattle.ofit_num.proofs.Spelled.{spelled_after-append, spelled_after-grows}
use Rattle.ofit_num.proofs.decimal.scale.value_of.Goals as goal

pub spelled-requires-in-Some-clause-digits : goal.spelled-requires-in-Some-clause-digits
spelled-requires-in-Some-clause-digits c = all_back IsDigit c.args.whole.now c.args.fraction.now c.requires

pub returns-in-None : goal.returns-in-None
returns-in-None c = past_more c.args.limit (spelled_after 0 c.args.whole.now) _ c.args.up c.in-None.ensures
    (omega (arith, spelled_after-append 0 c.args.whole.now c.args.fraction.now, spelled_after-grows (spelled_after 0 c.args.whole.now) c.args.fraction.now))

pub returns-in-None-spelled : goal.returns-in-None-spelled
returns-in-None-spelled c =
    let same : spelled_after c.in-Some.before c.args.fraction.now ≡ spelled_after 0 (c.args.whole.now ++ c.args.fraction.now) = ap (λ (n : ℕ). spelled_after n c.args.fraction.now) c.in-Some.ensures.0 ∙ sym (spelled_after-append 0 c.args.whole.now c.args.fraction.now) in
    past_more c.args.limit _ _ c.args.up c.in-None-spelled.ensures (omega (arith, same))

pub returns-in-Some-spelled : goal.returns-in-Some-spelled
returns-in-Some-spelled c =
    let same : c.in-Some-spelled.number ≡ spelled_after 0 (c.args.whole.now ++ c.args.fraction.now) = c.in-Some-spelled.ensures.0 ∙ ap (λ (n : ℕ). spelled_after n c.args.fraction.now) c.in-Some.ensures.0 ∙ sym (spelled_after-append 0 c.args.whole.now c.args.fraction.now) in
    let P : ℕ → Type 0 = λ v. MatchOption c.with_zeros.result (c.args.limit < v * 10 ^ c.args.up) (λ n. (n ≡ v * 10 ^ c.args.up) × (n ≤ c.args.limit)) in
    subst P same c.with_zeros.ensures
