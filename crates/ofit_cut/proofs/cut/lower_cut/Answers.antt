use Rattle.std.proofs.Common.{◌≡◌, ℕ, List, subst, sym, length, ◌∙◌, map}
use Rattle.std.proofs.lemmas.Result.{IfOk-weaker}
use Rattle.ofit_flow.specs.Network.{members}
use Rattle.ofit_cut.specs.Sets.{AreWithin, IsUpper, turned}
use Rattle.ofit_cut.specs.Greatest.{IsTied}
use Rattle.ofit_cut.proofs.Turned.{lower_from_upper, within_turned}
use Rattle.ofit_cut.proofs.cut.lower_cut.Goals as goal

pub greatest_upper-requires-clause-pairs_in : goal.greatest_upper-requires-clause-pairs_in
greatest_upper-requires-clause-pairs_in c =
    let n = length c.args.weights.now in
    subst (λ (ps : List (ℕ × ℕ)). AreWithin ps n) (sym (c.as_slice.ensures.value ∙ c.in_ok-turned.ensures)) (within_turned c.args.pairs.now n c.requires.pairs_in)

pub returns-clause-tied : goal.returns-clause-tied
returns-clause-tied c =
    let pairs = c.args.pairs.now in
    let ws = c.args.weights.now in
    let same : c.as_slice.result.now ≡ map turned pairs = c.as_slice.ensures.value ∙ c.in_ok-turned.ensures in
    IfOk-weaker c.greatest_upper.result _ _ (λ set h.
    lower_from_upper pairs c.args.tie ws (members set.items) (subst (λ (ps : List (ℕ × ℕ)). IsTied c.args.tie (IsUpper ps) ws (members set.items)) same h))
    c.greatest_upper.ensures.tied
