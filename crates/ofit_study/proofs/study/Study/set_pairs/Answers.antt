use Rattle.std.proofs.Common.{◌≡◌, ◌<◌, ◌∙◌, ℕ, List, length, ap, sym, subst, All, AllPairs, map}
use Rattle.ofit_study.specs.Study.{ComesBefore, names_of}
use Rattle.ofit_study.specs.Kept.{named}
use Rattle.ofit_study.proofs.Pairing.{kept-with_pairs}
use Rattle.ofit_study.proofs.study.Study.set_pairs.Goals as goal

pub invariant_of-self : goal.invariant_of-self
invariant_of-self c =
    let i = c.self.inside in
    let names : i.names ≡ names_of c.args.self.now = c.self.invariant.names_are ∙ ap names_of c.self.view_is in
    let ends : All (λ e. (e.0 < length i.names) × (e.1 < length i.names)) c.args.pairs.items = subst (λ (t : List (List ℕ)). All (λ e. (e.0 < length t) × (e.1 < length t)) c.args.pairs.items) (sym names) c.requires.within in
    let in_order : AllPairs ComesBefore (map (named i.names) c.args.pairs.items) = subst (λ (t : List (List ℕ)). AllPairs ComesBefore (map (named t) c.args.pairs.items)) (sym names) c.requires.in_order in
    rw c.in_ok-made.ensures (kept-with_pairs i.settings i.names i.entries.items i.groups i.pairs i.weight c.self.invariant c.args.pairs.items ends in_order c.requires.few)
