use Rattle.std.proofs.Common.{◌≡◌, ℕ, ◌<◌, ◌+◌, ◌==◌, length, take, slice_index, arith, get_or-set_same, get_or-set_other, inl, inr, sym, subst, ap, ◌∙◌, set}
use Rattle.std.specs.List.{count_by}
use Rattle.std.proofs.lemmas.Bool.Decides.{eqb_tells}
use Rattle.std.proofs.lemmas.List.{length-take-le, get_or_read, length-set}
use Rattle.std.proofs.lemmas.List.Sums.{count_by-le-length, count_by_more_yes, count_by_more_no}
use Rattle.ofit_order.proofs.degrees.tally.Goals as goal

pub overflow_add-index_mut : goal.overflow_add-index_mut
overflow_add-index_mut c =
    let place = slice_index c.args.ends.now c.loop-end.end-index in
    let inside : place < c.args.places = c.requires c.loop-end.end-index 0 c.loop-end-test.true in
    let within : place < length c.loop-end.counts.items = omega arith in
    let is = c.loop-end.invariant.each place inside in
    let few = count_by-le-length (λ (x : ℕ). x == place) (take c.loop-end.end-index c.args.ends.now) in
    let short = length-take-le c.loop-end.end-index c.args.ends.now (omega arith) in
    let value = get_or_read c.loop-end.counts.items place c.index_mut.result.now within c.index_mut.ensures.value 0 in
    omega arith

pub loop-end-preserved : goal.loop-end-preserved
loop-end-preserved c =
    let place = slice_index c.args.ends.now c.loop-end.end-index in
    let lt = c.loop-end-test.true in
    let inside : place < c.args.places = c.requires c.loop-end.end-index 0 lt in
    let within : place < length c.loop-end.counts.items = omega arith in
    let value = get_or_read c.loop-end.counts.items place c.index_mut.result.now within c.index_mut.ensures.value 0 in
    record {
      counted = rw length-set c.loop-end.invariant.counted;
      each = λ a l.
          let was = c.loop-end.invariant.each a l in
          elim (eqb_tells place a) [
            | inl here ↦
                let more = count_by_more_yes (λ (x : ℕ). x == a) c.args.ends.now c.loop-end.end-index 0 lt here.0 in
                let set_there = get_or-set_same c.loop-end.counts.items place (c.index_mut.result.now + 1) 0 within in
                let counts = c.loop-end.counts.items in
                subst (λ (t : ℕ). slice_index (set counts place (c.index_mut.result.now + 1)) t ≡ count_by (λ (x : ℕ). x == a) (take (c.loop-end.end-index + 1) c.args.ends.now))
                here.1
                (set_there ∙ ap (λ (t : ℕ). t + 1) (value ∙ ap (slice_index counts) here.1 ∙ was) ∙ sym more)
            | inr apart ↦
                let more = count_by_more_no (λ (x : ℕ). x == a) c.args.ends.now c.loop-end.end-index 0 lt apart.0 in
                let other = get_or-set_other c.loop-end.counts.items place a (c.index_mut.result.now + 1) 0 (λ e. apart.1 (sym e)) in
                cc
          ];
    }
