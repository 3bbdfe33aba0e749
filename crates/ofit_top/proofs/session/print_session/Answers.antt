use Rattle.std.proofs.Common.{◌≡◌, ℕ, List, sym, subst}
use Rattle.ofit_study.specs.Study.{Study}
use Rattle.ofit_script.specs.ScriptGives.{ScriptFits}
use Rattle.ofit_top.proofs.SessionCounts.{room, room_for_cuts, start_within, lines_within, lines_counted}
use Rattle.ofit_sample.proofs.Fitted.{on_err}
use Rattle.ofit_top.proofs.session.print_session.Goals as goal

pub returns-in_err-session-clause-within : goal.returns-in_err-session-clause-within
returns-in_err-session-clause-within c =
    let e = c.in_err-session.ensures in
    on_err c.from_residual.result _ (start_within c.args.study c.args.script.now c.args.tally.now c.start.new.tally c.start.new.tally e.grown e.grown_cuts e.fewer_cuts e.limited)

pub run_script-requires-clause-room : goal.run_script-requires-clause-room
run_script-requires-clause-room c =
    let e = c.in_ok-session.ensures in
    let n = e.counted in
    room c.args.study c.keeps_limits.ensures.valid n.0 n.1 c.args.tally.now c.start.new.tally n.2 c.requires.room

pub run_script-requires-clause-room_for_cuts : goal.run_script-requires-clause-room_for_cuts
run_script-requires-clause-room_for_cuts c =
    let e = c.in_ok-session.ensures in
    let n = e.counted in
    room_for_cuts c.args.study c.keeps_limits.ensures.valid n.0 n.1 c.args.tally.now c.start.new.tally n.2 c.requires.room_for_cuts e.fewer_cuts

pub returns-in_err-text-clause-within : goal.returns-in_err-text-clause-within
returns-in_err-text-clause-within c =
    let e = c.in_ok-session.ensures in
    let n = e.counted in
    let r = c.in_err-text.ensures in
    on_err c.from_residual-in_err-text.result _
    (lines_within c.args.study c.args.script.now c.args.tally.now c.start.new.tally c.run_script.new.tally n.0 n.1 n.2 e.grown_cuts e.fewer_cuts r.grown r.grown_cuts r.fewer_cuts
    (λ m ran. r.limited m (subst (λ (s : Study). ScriptFits s c.args.script.now m) (sym e.study) ran)))

pub returns-clause-counts : goal.returns-clause-counts
returns-clause-counts c =
    let e = c.in_ok-session.ensures in
    let n = e.counted in
    let r = c.in_ok-text.ensures in
    let m = r.gives in
    lines_counted c.args.study c.args.script.now c.args.tally.now c.start.new.tally c.run_script.new.tally n.0 m.0 n.1
    (subst (λ (s : Study). ScriptFits s c.args.script.now m.0) e.study (_, _, m.1)) n.2 m.2 e.grown_cuts e.fewer_cuts r.grown_cuts r.fewer_cuts
