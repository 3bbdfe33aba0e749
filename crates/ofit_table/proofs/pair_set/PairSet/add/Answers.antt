use Rattle.std.proofs.Common.{◌≢◌, ◌++◌, ◌∷◌, [], ◌∙◌, ℕ, List, ap, subst, sym}
use Rattle.std.specs.Prelude.{All}
use Rattle.ofit_table.proofs.PairKeys.{added}
use Rattle.ofit_table.proofs.pair_set.PairSet.add.Goals as goal

pub returns : goal.returns
returns c =
    c.in_ok-insert.ensures.keys
    ∙ added c.args.pair c.self.inside.set.keys (subst (All (λ known. known ≢ c.args.pair)) (sym c.self.view_is) c.requires)
    ∙ ap (λ (t : List (ℕ × ℕ)). t ++ c.args.pair ∷ []) c.self.view_is
