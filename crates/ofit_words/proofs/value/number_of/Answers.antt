use Rattle.std.proofs.Common.{ℕ, List, subst}
use Rattle.std.specs.Prelude.{MatchOption}
use Rattle.ofit_words.specs.Values.{IsNumberIn}
use Rattle.ofit_words.proofs.value.number_of.Goals as goal

pub returns : goal.returns
returns c =
    subst (λ (t : List ℕ). MatchOption c.number_in.result ((n : ℕ) → IsNumberIn c.args.low c.args.high t n → ⊥) (λ n. IsNumberIn c.args.low c.args.high t n)) c.as_bytes.ensures.value c.number_in.ensures
