use Rattle.ofit_study.proofs.Preparing.{group_rises, puts_less, stood_within}
use Rattle.ofit_study.proofs.study.Study.less_row.Goals as goal

pub spliced-requires-clause-rising : goal.spliced-requires-clause-rising
spliced-requires-clause-rising c =
    let i = c.self.inside in
    group_rises i.settings i.names i.entries.items i.groups i.pairs i.weight c.self.invariant c.index-entry.result.now.place

pub overflow_sub-weight : goal.overflow_sub-weight
overflow_sub-weight c =
    let i = c.self.inside in
    stood_within i.settings i.names i.entries.items i.groups i.pairs i.weight c.self.invariant c.args.self.now c.self.view_is c.args.index c.index-entry.result.now c.requires.inside c.index-entry.ensures

pub returns : goal.returns
returns c =
    let i = c.self.inside in
    rw (c.make.ensures, c.in_ok-others.ensures, c.as_slice.ensures.value)
    (puts_less i.settings i.names i.entries.items i.groups i.pairs i.weight c.self.invariant c.args.index c.index-entry.result.now c.index-entry.ensures c.args.self.now c.self.view_is c.requires.inside c.requires.before c.requires.valid c.in_ok-rows.rows.items c.in_ok-rows.ensures)
