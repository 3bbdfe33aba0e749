use Rattle.std.proofs.Common.{refl}
use Rattle.ofit_study.proofs.Preparing.{changes_more, group_rises}
use Rattle.ofit_study.proofs.study.Study.more_row.Goals as goal

pub spliced-requires-clause-rising : goal.spliced-requires-clause-rising
spliced-requires-clause-rising c =
    let i = c.self.inside in
    group_rises i.settings i.names i.entries.items i.groups i.pairs i.weight c.self.invariant c.args.place

pub returns-clause-change : goal.returns-clause-change
returns-clause-change c =
    let i = c.self.inside in
    (changes_more i.settings i.names i.entries.items i.groups i.pairs i.weight c.self.invariant c.args.index c.args.place c.args.row c.args.self.now c.self.view_is c.requires.place c.requires.below c.requires.above c.requires.before c.requires.valid c.in_ok-rows.rows.items c.in_ok-rows.ensures c.make.result (rw (c.make.ensures, c.in_ok-others.ensures, c.as_slice.ensures.value) refl)).0

pub returns-clause-after : goal.returns-clause-after
returns-clause-after c =
    let i = c.self.inside in
    (changes_more i.settings i.names i.entries.items i.groups i.pairs i.weight c.self.invariant c.args.index c.args.place c.args.row c.args.self.now c.self.view_is c.requires.place c.requires.below c.requires.above c.requires.before c.requires.valid c.in_ok-rows.rows.items c.in_ok-rows.ensures c.make.result (rw (c.make.ensures, c.in_ok-others.ensures, c.as_slice.ensures.value) refl)).1
