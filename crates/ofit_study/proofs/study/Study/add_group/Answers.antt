use Rattle.std.proofs.Common.{◌≡◌, ◌≢◌, ℕ, List, ap, ◌∙◌, sym, subst, All, arith, length}
use Rattle.ofit_study.specs.declared.entry.Entry.{Entry}
use Rattle.ofit_study.specs.Study.{Study, IsValid, names_of}
use Rattle.ofit_study.specs.Kept.{made_of}
use Rattle.ofit_study.specs.Added.{observation, with_row}
use Rattle.ofit_study.proofs.Popping.{popped}
use Rattle.ofit_study.proofs.Pushing.{kept-push_new, made-push_new}
use Rattle.ofit_study.proofs.study.Study.add_group.Goals as goal

pub invariant_of-self-in-Ok : goal.invariant_of-self-in-Ok
invariant_of-self-in-Ok c =
    let i = c.self.inside in
    let k = c.self.invariant in
    let e : Entry = record { place = c.count-place.result; row = c.args.row } in
    let names : i.names ≡ names_of c.args.self.now = k.names_are ∙ ap names_of c.self.view_is in
    let new : All (λ known. known ≢ c.args.name.now) i.names = subst (λ (t : List (List ℕ)). All (λ known. known ≢ c.args.name.now) t) (sym names) c.requires.new in
    let valid : IsValid (with_row (made_of i.settings i.names i.entries.items i.pairs) (observation c.args.name.now c.args.row)) =
    subst (λ (s : Study). IsValid (with_row s (observation c.args.name.now c.args.row))) (sym c.self.view_is) c.requires.valid in
    rw (c.in_ok-push.ensures.items, c.in_default.ensures.ok, c.in-Ok.ensures.ok)
    (kept-push_new i.settings i.names i.entries.items i.groups i.pairs i.weight k c.args.name.now e new c.count-place.ensures valid)

pub returns-in-Ok-clause-ok : goal.returns-in-Ok-clause-ok
returns-in-Ok-clause-ok c =
    let i = c.self.inside in
    let k = c.self.invariant in
    let e : Entry = record { place = c.count-place.result; row = c.args.row } in
    let names : i.names ≡ names_of c.args.self.now = k.names_are ∙ ap names_of c.self.view_is in
    let new : All (λ known. known ≢ c.args.name.now) i.names = subst (λ (t : List (List ℕ)). All (λ known. known ≢ c.args.name.now) t) (sym names) c.requires.new in
    let valid : IsValid (with_row (made_of i.settings i.names i.entries.items i.pairs) (observation c.args.name.now c.args.row)) =
    subst (λ (s : Study). IsValid (with_row s (observation c.args.name.now c.args.row))) (sym c.self.view_is) c.requires.valid in
    rw (c.in_ok-push.ensures.items, c.in-Ok.ensures.ok)
    (made-push_new i.settings i.names i.entries.items i.groups i.pairs i.weight k c.args.name.now e new c.count-place.ensures valid
    ∙ ap (λ (s : Study). with_row s (observation c.args.name.now c.args.row)) c.self.view_is)

pub invariant_of-self-in-Err : goal.invariant_of-self-in-Err
invariant_of-self-in-Err c =
    rw (c.pop.ensures.rest ∙ popped c.self.inside.entries.items _ c.push.new.self.items _ c.in_ok-push.ensures.items (omega (arith, c.in_ok-push.ensures.len)), c.in-Err.ensures.err) c.self.invariant

pub returns-in-Err-clause-err : goal.returns-in-Err-clause-err
returns-in-Err-clause-err c =
    rw (c.pop.ensures.rest ∙ popped c.self.inside.entries.items _ c.push.new.self.items _ c.in_ok-push.ensures.items (omega (arith, c.in_ok-push.ensures.len))) c.self.view_is

pub add-requires-clause-room : goal.add-requires-clause-room
add-requires-clause-room c = omega (arith, ap length c.self.invariant.names_are, c.self.invariant.valid.groups)
