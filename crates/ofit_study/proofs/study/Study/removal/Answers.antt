use Rattle.std.proofs.Common.{◌≡◌, ◌∙◌, ℕ, List, [], sym, ap, subst, get_or, take, true≢false, Some, slice_get}
use Rattle.std.proofs.lemmas.Option.{slice_get-get_or}
use Rattle.std.specs.Prelude.{pos, Contains}
use Rattle.ofit_study.specs.Change.{HasBefore}
use Rattle.ofit_study.specs.Edited.{HasRow, IsInUse}
use Rattle.ofit_study.specs.Kept.{name_at}
use Rattle.ofit_study.specs.Study.{Observation, group_names, names_of}
use Rattle.ofit_study.proofs.Earlier.{before_names, from_row, only_row, removes, row_put}
use Rattle.ofit_study.proofs.Editing.{valid-remove}
use Rattle.ofit_study.proofs.study.Study.removal.Goals as goal

pub less_row-requires-clause-before : goal.less_row-requires-clause-before
less_row-requires-clause-before c = λ r e.
    let s = c.args.self.now in
    subst (Contains (group_names (take c.in-Some.index s.rows))) (c.place_at.ensures.group r e)
    (before_names s c.in-Some.index c.args.number (from_row s c.keeps_limits.ensures.valid c.in-Some.index c.args.number c.in-Some.ensures) (name_at (names_of s) c.place_at.result) (c.stands_before.ensures.0 c.if-stands_before.true))

pub less_row-requires-clause-valid : goal.less_row-requires-clause-valid
less_row-requires-clause-valid c =
    let s = c.args.self.now in
    let v = c.keeps_limits.ensures.valid in
    let d : Observation = record { number = 0; group = []; value = pos 0; weight = 0 } in
    let r : Observation = get_or s.rows c.in-Some.index d in
    let at : HasRow s c.args.number = row_put s v c.in-Some.index c.args.number c.in-Some.ensures r (slice_get-get_or s.rows c.in-Some.index d c.in-Some.ensures.inside) in
    valid-remove s v c.args.number at
    (λ used. c.requires.1 (subst (λ (o : Observation). IsInUse s o.group) (only_row s v c.args.number at c.requires.0) used))

pub returns-in_ok-less_row : goal.returns-in_ok-less_row
returns-in_ok-less_row c = removes c.args.self.now c.keeps_limits.ensures.valid c.in-Some.index c.args.number c.in-Some.ensures c.in_ok-less_row.field-0 c.in_ok-less_row.ensures

pub returns-else-stands_before : goal.returns-else-stands_before
returns-else-stands_before c = λ h.
    let s = c.args.self.now in
    let v = c.keeps_limits.ensures.valid in
    let d : Observation = record { number = 0; group = []; value = pos 0; weight = 0 } in
    let r : Observation = get_or s.rows c.in-Some.index d in
    let e : slice_get s.rows c.in-Some.index ≡ Some r = slice_get-get_or s.rows c.in-Some.index d c.in-Some.ensures.inside in
    let at : HasRow s c.args.number = row_put s v c.in-Some.index c.args.number c.in-Some.ensures r e in
    true≢false (sym (c.stands_before.ensures.1
    (subst (λ (n : List ℕ). HasBefore s n c.args.number) (ap (λ (o : Observation). o.group) (only_row s v c.args.number h.0 at) ∙ sym (c.place_at.ensures.group r e)) h.1)) ∙ c.if-stands_before.false)
