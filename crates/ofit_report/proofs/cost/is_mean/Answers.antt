use Rattle.std.proofs.Common.{◌≡◌, ◌∙◌, ℕ, sym, ap, subst, inl, inr, arith, to_z, of_z}
use Rattle.std.proofs.Math.Dec.{eqb}
use Rattle.std.proofs.lemmas.Bool.Decides.{eqb_tells}
use Rattle.std.proofs.lemmas.Int.{ints}
use Rattle.std.specs.Int.{w128}
use Rattle.std.specs.Prelude.{Bool, MatchBool, pos, ◌*ℤ◌}
use Rattle.ofit_report.proofs.Products.{times_is}
use Rattle.ofit_report.proofs.cost.is_mean.Goals as goal

decide : (a b : ℕ) (P : Type 0) → (a ≡ b → P) → (P → a ≡ b) → MatchBool (eqb a b) P (P → ⊥)
decide a b P forth back = elim (eqb_tells a b) [
  | inl e ↦ subst (λ (t : Bool). MatchBool t P (P → ⊥)) (sym e.0) (forth e.1)
  | inr e ↦ subst (λ (t : Bool). MatchBool t P (P → ⊥)) (sym e.0) (λ (p : P). e.1 (back p))
]

pub returns-clause-mean : goal.returns-clause-mean
returns-clause-mean c =
    let value = c.args.value.now in
    let all = c.args.all in
    let left : c.product.result ≡ value.num *ℤ pos all.weight =
    times_is _ (to_z w128 (of_z w128 c.num.result)) (to_z w128 (of_z w128 c.from.result)) value.num (pos all.weight) c.product.ensures.exact (omega (arith, ints, c.num.ensures.value)) (omega (arith, ints, c.from.ensures)) in
    let right : c.product-2.result ≡ all.sum *ℤ pos value.den =
    times_is _ (to_z w128 (of_z w128 all.sum)) (to_z w128 (of_z w128 c.den.result)) all.sum (pos value.den) c.product-2.ensures.exact (omega (arith, ints, c.requires.most_sum)) (omega (arith, ints, c.den.ensures.value)) in
    decide (of_z w128 c.product.result) (of_z w128 c.product-2.result) (value.num *ℤ pos all.weight ≡ all.sum *ℤ pos value.den)
    (λ e. let same : c.product.result ≡ c.product-2.result = omega (arith, ints, ap (to_z w128) e) in sym left ∙ same ∙ right)
    (λ mean. ap (of_z w128) (left ∙ mean ∙ sym right))
