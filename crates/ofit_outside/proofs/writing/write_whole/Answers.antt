use Rattle.std.proofs.Common.{◌≡◌, ℕ, ◌-◌, List, [], ◌++◌, Option, length, take, drop, sym, ap, subst, ◌∙◌, append_assoc, append-nil, take-append-drop, drop_of_length-le, length-append, arith, rules}
use Rattle.std.proofs.lemmas.List.{take_rest}
use Rattle.std.proofs.Math.Seq.{take-append_seam}
use Rattle.std.proofs.KnownBytes.{Appends-trans, Appends-kept}
use Rattle.std.specs.Io.KnownBytes.{Appends, Keeps}
use Rattle.ofit_outside.specs.Streams.{AppendsPrefix}
use Rattle.ofit_outside.proofs.writing.write_whole.Goals as goal
use Rattle.ofit_outside.proofs.writing.write_whole.Goals.{in-Ok, in-Err}

-- the bytes but for the rest came after what was there
abbrev Written : Option (List ℕ) → Option (List ℕ) → List ℕ → List ℕ → Type 0
Written before after bytes rest = (done : List ℕ) × (bytes ≡ done ++ rest) × Appends before after done

written_prefix : (a b : Option (List ℕ)) (bytes rest : List ℕ) → Written a b bytes rest → AppendsPrefix a b bytes
written_prefix a b bytes rest (done, split, got) = (
  length done,
  omega (arith, ap length split, length-append done rest),
  subst (Appends a b) (sym (ap (take (length done)) split ∙ take-append_seam done rest)) got,
)

written_whole : (a b : Option (List ℕ)) (bytes rest : List ℕ) → rest ≡ [] → Written a b bytes rest → Appends a b bytes
written_whole a b bytes rest none (done, split, got) = subst (Appends a b) (sym (split ∙ ap (λ (l : List ℕ). done ++ l) none ∙ append-nil done)) got

written_kept : (a b c : Option (List ℕ)) (bytes rest : List ℕ) → Written a b bytes rest → Keeps b c → Written a c bytes rest
written_kept a b c bytes rest (done, split, got) kept = (done, split, Appends-kept a b c done got kept)

written_more : (a b c : Option (List ℕ)) (bytes rest : List ℕ) (n : ℕ) → Written a b bytes rest → Appends b c (take n rest) → Written a c bytes (take (length rest - n) (drop n rest))
written_more a b c bytes rest n (done, split, got) more = (
  done ++ take n rest,
  split ∙ ap (λ (l : List ℕ). done ++ l) (sym (take-append-drop n rest)) ∙ sym (append_assoc done (take n rest) (drop n rest)) ∙ ap (λ (l : List ℕ). (done ++ take n rest) ++ l) (sym (take_rest rest n)),
  Appends-trans a b c done (take n rest) got more,
)

pub returns-then-is_empty-clause-ok : goal.returns-then-is_empty-clause-ok
returns-then-is_empty-clause-ok g c = written_whole _ _ _ c.loop.rest.now (drop_of_length-le c.loop.rest.now {i = 0} (search rules)) c.loop.invariant

pub returns-in-Ok-eq0-clause-err : goal.returns-in-Ok-eq0-clause-err
returns-in-Ok-eq0-clause-err g c =
    let more = rw c.in-Ok-eq0.is at c.write.ensures.bytes in
    written_prefix _ _ _ _ (written_more _ _ _ _ c.loop.rest.now c.in-Ok-eq0.field-0 c.loop.invariant more)

pub returns-in-Err-2-clause-err : goal.returns-in-Err-2-clause-err
returns-in-Err-2-clause-err g c = written_prefix _ _ _ c.loop.rest.now (written_kept _ _ _ _ _ c.loop.invariant c.in-Err.ensures.bytes)

pub loop-preserved : goal.loop-preserved
loop-preserved g c = elim c.match-write.branch [
  | in-Ok w ↦ rw w.rest-is (written_more _ _ _ _ c.loop.rest.now w.in-Ok.count c.loop.invariant w.in-Ok.ensures.bytes)
  | in-Err w ↦ rw w.rest-is (written_kept _ _ _ _ _ c.loop.invariant w.in-Err.ensures.bytes)
]

pub returns-clause-err : goal.returns-clause-err
returns-clause-err g c = written_prefix _ _ _ c.loop.rest.now c.loop.invariant
