use Rattle.std.proofs.Common.{ℕ, List, length, le_refl, sym, subst, rules}
use Rattle.std.proofs.Math.Seq.{take-length}
use Rattle.std.proofs.KnownBytes.{Appends-kept}
use Rattle.std.specs.Io.KnownBytes.{Appends, Keeps}
use Rattle.ofit_outside.proofs.std_sink.StdSinkSink.put.Goals as goal

-- all was written, and the flush that failed left it
pub returns-in-Err-clause-err : goal.returns-in-Err-clause-err
returns-in-Err-clause-err g c =
    let got : Appends c.args.self.now.contents (g.W.Write.contents c.write_whole.new.writer) c.args.bytes.now = search rules in
    let kept : Keeps (g.W.Write.contents c.write_whole.new.writer) c.failed-in-Err.new.self.contents = search rules in
    (length c.args.bytes.now, le_refl _, subst (λ (l : List ℕ). Appends c.args.self.now.contents c.failed-in-Err.new.self.contents l) (sym (take-length c.args.bytes.now)) (Appends-kept _ _ _ _ got kept))
