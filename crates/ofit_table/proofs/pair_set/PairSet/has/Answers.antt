use Rattle.std.proofs.Common.{◌≢◌, ℕ, List, subst}
use Rattle.std.specs.Prelude.{All, Contains}
use Rattle.std.specs.Bool.{MatchBool}
use Rattle.ofit_table.proofs.PairKeys.{has_cases}
use Rattle.ofit_table.proofs.pair_set.PairSet.has.Goals as goal

pub returns : goal.returns
returns c =
    subst (λ (t : List (ℕ × ℕ)). MatchBool c.contains.result (Contains t c.args.pair) (All (λ known. known ≢ c.args.pair) t)) c.self.view_is
    (has_cases c.contains.result c.self.inside.set.keys c.args.pair c.contains.ensures)
