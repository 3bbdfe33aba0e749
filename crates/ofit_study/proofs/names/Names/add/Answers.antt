use Rattle.std.proofs.Common.{◌≢◌, ◌++◌, ◌∷◌, [], List, ℕ, ap, sym, subst, ◌∙◌, All}
use Rattle.std.specs.Prelude.{map}
use Rattle.ofit_study.proofs.NameSets.{names-put}
use Rattle.ofit_study.proofs.names.Names.add.Goals as goal

pub returns-clause-ok : goal.returns-clause-ok
returns-clause-ok c =
    let keys = c.self.inside.set.keys in
    let text = c.in_ok-text.text in
    let new : All (λ known. known ≢ text.items) (map (λ w. w.items) keys) = subst (λ (t : List ℕ). All (λ known. known ≢ t) (map (λ w. w.items) keys)) (sym c.in_ok-text.ensures.items) (rw (c.self.view_is) c.requires.new) in
    ap (map (λ w. w.items)) c.in_ok-insert.ensures.keys ∙ names-put text keys new ∙ ap (λ (t : List ℕ). map (λ w. w.items) keys ++ t ∷ []) c.in_ok-text.ensures.items ∙ ap (λ (t : List (List ℕ)). t ++ c.args.name.now ∷ []) c.self.view_is
