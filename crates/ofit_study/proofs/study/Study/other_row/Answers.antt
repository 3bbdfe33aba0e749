use Rattle.std.proofs.Common.{◌+◌, ◌-◌, ◌<◌, ◌^◌, arith, rules}
use Rattle.ofit_study.proofs.Preparing.{group_rises, puts_other, stood_within}
use Rattle.ofit_study.proofs.study.Study.other_row.Goals as goal

pub spliced-requires-clause-rising : goal.spliced-requires-clause-rising
spliced-requires-clause-rising c =
    let i = c.self.inside in
    group_rises i.settings i.names i.entries.items i.groups i.pairs i.weight c.self.invariant c.index-entry.result.now.place

pub overflow_sub-weight : goal.overflow_sub-weight
overflow_sub-weight c =
    let i = c.self.inside in
    stood_within i.settings i.names i.entries.items i.groups i.pairs i.weight c.self.invariant c.args.self.now c.self.view_is c.args.index c.index-entry.result.now c.requires.inside c.index-entry.ensures

pub overflow_add-weight : goal.overflow_add-weight
overflow_add-weight c =
    let i = c.self.inside in
    let puts = puts_other i.settings i.names i.entries.items i.groups i.pairs i.weight c.self.invariant c.args.index c.index-entry.result.now c.index-entry.ensures c.args.row c.args.self.now c.self.view_is c.requires.inside c.requires.same c.requires.valid in
    let fits : i.weight - c.index-entry.result.now.row.weight + c.args.row.weight < 2 ^ 64 = omega (arith, puts.0) in
    search rules

pub returns : goal.returns
returns c =
    let i = c.self.inside in
    let puts = puts_other i.settings i.names i.entries.items i.groups i.pairs i.weight c.self.invariant c.args.index c.index-entry.result.now c.index-entry.ensures c.args.row c.args.self.now c.self.view_is c.requires.inside c.requires.same c.requires.valid in
    rw (c.make.ensures) (puts.1 c.in_ok-rows.rows.items c.in_ok-rows.ensures)
