use Rattle.std.proofs.Common.{◌≡◌, ◌∙◌}
use Rattle.std.specs.Prelude.{vec_len}
use Rattle.ofit_num.specs.declared.row.Row.{Row}
use Rattle.ofit_study.proofs.Clones.{items-cloned}
use Rattle.ofit_study.proofs.groups.GroupRows.copy.Goals as goal

pub returns : goal.returns
returns c =
    items-cloned (λ (x y : Row). y ≡ x) (λ v w. vec_len w ≡ vec_len v) (λ x y e. e) c.self.inside.lists.items c.in_ok-lists.lists.items c.in_ok-lists.ensures.cases.0
    ∙ c.self.view_is
