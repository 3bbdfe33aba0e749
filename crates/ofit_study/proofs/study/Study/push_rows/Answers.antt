use Rattle.std.proofs.Common.{◌≡◌, ◌+◌, ◌++◌, ◌∷◌, [], ℕ, subst, arith}
use Rattle.ofit_study.specs.Study.{Observation}
use Rattle.ofit_study.specs.Added.{observation}
use Rattle.ofit_study.specs.Splice.{rows_between}
use Rattle.ofit_study.proofs.Splicing.{put_valid, put_parts, put_step, put_none, put_more}
use Rattle.ofit_study.proofs.study.Study.push_rows.Goals as goal

pub loop-index-init : goal.loop-index-init
loop-index-init c = put_none c.args.self.now c.args.from.now.rows c.args.start

pub push-requires : goal.push-requires
push-requires c =
    let s = c.args.self.now in
    let rows = c.args.from.now.rows in
    let k = c.loop-index.index in
    let r : Observation = observation c.row_at.result.0.now c.row_at.result.1 in
    put_valid s c.loop-index.self (s.rows ++ rows_between rows c.args.start k) (r ∷ []) (rows_between rows (k + 1) c.args.end) (s.rows ++ rows_between rows c.args.start c.args.end) c.requires.bare c.requires.valid c.loop-index.invariant
    (put_parts s.rows rows c.args.start k c.args.end r (omega arith) (omega arith) c.row_at.ensures)

pub loop-index-preserved : goal.loop-index-preserved
loop-index-preserved c =
    let s = c.args.self.now in
    let rows = c.args.from.now.rows in
    let k = c.loop-index.index in
    let r : Observation = observation c.row_at.result.0.now c.row_at.result.1 in
    put_more s c.loop-index.self c.push.new.self (s.rows ++ rows_between rows c.args.start k) (s.rows ++ rows_between rows c.args.start (k + 1)) r c.loop-index.invariant c.in_ok-push.ensures.ok
    (put_step s.rows rows c.args.start k c.args.end r (omega arith) (omega arith) c.row_at.ensures)

pub returns : goal.returns
returns c =
    let s = c.args.self.now in
    let last : c.loop-index.index ≡ c.args.end = omega arith in
    subst (λ (n : ℕ). c.loop-index.self ≡ record s { rows = s.rows ++ rows_between c.args.from.now.rows c.args.start n }) last c.loop-index.invariant
