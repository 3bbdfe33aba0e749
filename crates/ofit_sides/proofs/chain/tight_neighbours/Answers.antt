use Rattle.std.proofs.Common.{◌∙◌, ◌≡◌, ◌-◌, ℕ, List, ◌∷◌, ◌++◌, [], length, sym, ap, arith, Vec, Global}
use Rattle.ofit_num.specs.Pairs.{rising_to}
use Rattle.ofit_num.specs.Tight.{tight_among}
use Rattle.ofit_sides.proofs.Neighbours.{tight_kept, tight_left}
use Rattle.ofit_sides.proofs.chain.tight_neighbours.Goals as goal
use Rattle.ofit_sides.proofs.chain.tight_neighbours.Goals.{then-is_tight+in_ok-push, else-is_tight}

pub loop-place-preserved : goal.loop-place-preserved
loop-place-preserved c =
    let fs = c.args.values.now in
    let k = c.loop-place.place in
    record {
      pairs = elim c.if-is_tight.branch [
        | then-is_tight+in_ok-push w ↦
            ap (λ (v : Vec (ℕ × ℕ) Global). v.items) w.pairs-is ∙ w.in_ok-push.ensures.items
            ∙ ap (λ (es : List (ℕ × ℕ)). es ++ (k - 1, k) ∷ []) c.loop-place.invariant.pairs
            ∙ sym (tight_kept fs k (omega arith) (sym c.is_tight.ensures ∙ w.if-is_tight.true))
        | else-is_tight w ↦
            ap (λ (v : Vec (ℕ × ℕ) Global). v.items) w.pairs-is ∙ c.loop-place.invariant.pairs
            ∙ sym (tight_left fs k (omega arith) (sym c.is_tight.ensures ∙ w.if-is_tight.false))
      ];
      bound = omega arith;
    }

pub returns : goal.returns
returns c =
    let last : c.loop-place.place - 1 ≡ length c.args.values.now - 1 = omega arith in
    c.loop-place.invariant.pairs ∙ ap (λ (n : ℕ). tight_among c.args.values.now (rising_to n)) last
