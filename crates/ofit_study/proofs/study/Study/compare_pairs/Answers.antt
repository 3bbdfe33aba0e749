use Rattle.std.proofs.Common.{◌≡◌, ◌∙◌, ℕ, List, ap, sym, subst, slice_get, Some}
use Rattle.ofit_study.specs.Study.{places_of}
use Rattle.ofit_study.proofs.PairLists.{order_at}
use Rattle.ofit_study.proofs.study.Study.compare_pairs.Goals as goal

pub returns : goal.returns
returns c =
    let i = c.self.inside in
    let pairs : i.pairs ≡ places_of c.args.self.now = c.self.invariant.pairs_are ∙ ap places_of c.self.view_is in
    λ j k e f.
    c.compare_pairs.ensures
    ∙ order_at i.names i.pairs c.self.invariant.valid.in_order j k c.args.first c.args.second (subst (λ (t : List (ℕ × ℕ)). slice_get t j ≡ Some c.args.first) (sym pairs) e) (subst (λ (t : List (ℕ × ℕ)). slice_get t k ≡ Some c.args.second) (sym pairs) f)
