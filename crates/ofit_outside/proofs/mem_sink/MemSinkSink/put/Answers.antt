use Rattle.std.proofs.Common.{◌≡◌, ◌/◌, ◌++◌, ℕ, List, Some, length, take, refl, inr, ap, arith, rules}
use Rattle.ofit_outside.proofs.mem_sink.MemSinkSink.put.Goals as goal

pub returns-then-listed-clause-err : goal.returns-then-listed-clause-err
returns-then-listed-clause-err c =
    let half : c.extend_from_slice.new.self.items ≡ c.args.self.now.written ++ take (length c.args.bytes.now / 2) c.args.bytes.now = search rules in
    (length c.args.bytes.now / 2, omega arith, ap (λ (l : List ℕ). Some l) half)

pub returns-then-listed-clause-fails_at : goal.returns-then-listed-clause-fails_at
returns-then-listed-clause-fails_at c = rw (← c.self.view_is) ((λ _. inr (c.if-listed.ensures.listed.0 refl)), (λ _. refl))
