use Rattle.std.proofs.Common.{ℕ, ◌-◌, ◌<◌, ◌≤◌, ◌≡◌, arith, ap, inl, inr, length, get_or, take, drop}
use Rattle.std.proofs.lemmas.List.{length-take, length-drop}
use Rattle.ofit_fit.proofs.Searching.{between_from, between_to, order_split}
use Rattle.ofit_fit.proofs.links.pairs_above.Goals as goal

pub returns-then-start-end-clause-above : goal.returns-then-start-end-clause-above
returns-then-start-end-clause-above c =
    let pairs = c.args.pairs.now in
    let start = c.start_of-start.result in
    let end = c.end_of-end.result in
    let first = c.start_of-start.ensures in
    let last = c.end_of-end.ensures in
    λ e. (
      (λ h.
          let f = between_from pairs start end e (omega arith) last.bound h in
          let same : (get_or pairs f.0 e).0 ≡ e.0 = ap (λ (p : ℕ × ℕ). p.0) f.3 in
          let inside : f.0 < length pairs = omega (arith, f.2, last.bound) in
          ((f.0, inside, f.3), omega (arith, same, last.before f.0 e f.2, first.after f.0 e f.1 inside))),
      (λ h.
          let k = h.0.0 in
          let same : (get_or pairs k e).0 ≡ e.0 = ap (λ (p : ℕ × ℕ). p.0) h.0.2 in
          let from : start ≤ k = elim (order_split k start) [ inl b ↦ absurd (omega (arith, same, h.1, first.before k e b)) | inr b ↦ b ] in
          let upto : k < end = elim (order_split k end) [ inl b ↦ b | inr b ↦ absurd (omega (arith, same, h.1, last.after k e b h.0.1)) ] in
          between_to pairs start end e last.bound k from upto h.0.2),
    )

pub returns-then-start-end-clause-run : goal.returns-then-start-end-clause-run
returns-then-start-end-clause-run c =
    let pairs = c.args.pairs.now in
    let start = c.start_of-start.result in
    let end = c.end_of-end.result in
    let count : length (take (end - start) (drop start pairs)) ≡ end - start = omega (arith, length-take (end - start) (drop start pairs), length-drop start pairs, c.end_of-end.ensures.bound) in
    record {
      start = start;
      inside = omega (arith, count, c.end_of-end.ensures.bound);
      before = λ k d l. c.end_of-end.ensures.before k d (omega (arith, l, count));
      after = c.start_of-start.ensures.after;
    }

pub returns-else-start-end-clause-run : goal.returns-else-start-end-clause-run
returns-else-start-end-clause-run c = record {
  start = c.start_of-start.result;
  inside = omega (arith, c.start_of-start.ensures.bound);
  before = λ k d l. omega (arith, c.start_of-start.ensures.before k d (omega (arith, l)));
  after = c.start_of-start.ensures.after;
}
