use Rattle.std.proofs.Common.{◌≡◌, ℕ, List, length, ap, ◌∙◌, sym, subst, arith}
use Rattle.ofit_study.specs.declared.entry.Entry.{Entry}
use Rattle.ofit_study.specs.Study.{Study, IsValid, names_of}
use Rattle.ofit_study.specs.Kept.{made_of, observed, name_at}
use Rattle.ofit_study.specs.Added.{observation, with_row}
use Rattle.ofit_study.proofs.Popping.{popped}
use Rattle.ofit_study.proofs.Pushing.{kept-push_known}
use Rattle.ofit_study.proofs.study.Study.add_to_group.Goals as goal

pub invariant_of-self-in-Ok : goal.invariant_of-self-in-Ok
invariant_of-self-in-Ok c =
    let i = c.self.inside in
    let k = c.self.invariant in
    let e : Entry = record { place = c.args.place; row = c.args.row } in
    let names : i.names ≡ names_of c.args.self.now = k.names_are ∙ ap names_of c.self.view_is in
    let valid : IsValid (with_row (made_of i.settings i.names i.entries.items i.pairs) (observed i.names e)) =
    subst (λ (t : List (List ℕ)). IsValid (with_row (made_of i.settings i.names i.entries.items i.pairs) (observation (name_at t c.args.place) c.args.row))) (sym names)
    (subst (λ (s : Study). IsValid (with_row s (observation (name_at (names_of c.args.self.now) c.args.place) c.args.row))) (sym c.self.view_is) c.requires.valid) in
    rw (c.in_ok-push.ensures.items, c.in-Ok.ensures.ok)
    (kept-push_known i.settings i.names i.entries.items i.groups i.pairs i.weight k e (omega (arith, ap length names, c.requires.place)) valid)

pub invariant_of-self-in-Err : goal.invariant_of-self-in-Err
invariant_of-self-in-Err c =
    rw (c.pop.ensures.rest ∙ popped c.self.inside.entries.items _ c.push.new.self.items _ c.in_ok-push.ensures.items (omega (arith, c.in_ok-push.ensures.len)), c.in-Err.ensures.err) c.self.invariant
