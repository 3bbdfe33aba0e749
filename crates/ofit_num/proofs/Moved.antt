-- A trial with one set of its places moved by one step, over a denominator k times as fine. Sets that can move keep it obedient.
use Rattle.std.proofs.Common.{◌≡◌, ◌≢◌, ℕ, ◌*◌, ◌<◌, refl, arith, cond, Bool, true, false, int_eq, mul-pos}
use Rattle.std.proofs.lemmas.Int.{ints, by_lt_z}
use Rattle.std.proofs.lemmas.Bool.Decides.{Decides-int_eq}
use Rattle.std.specs.Prelude.{ℤ, pos, negsuc, ◌+ℤ◌, ◌*ℤ◌, ◌≤ℤ◌, Option, Some, None, IfSome}
use Rattle.ofit_num.specs.Problem.{Problem}
use Rattle.ofit_num.specs.Trial.{Trial}
use Rattle.ofit_num.specs.Fit.{Obeys}
use Rattle.ofit_num.specs.Span.{is_at}
use Rattle.ofit_num.specs.Sets.{IsClosedUp, IsClosedDown}
use Rattle.ofit_num.specs.Settled.{CanRise, CanFall}
use Rattle.ofit_num.proofs.Gap.{assoc}
use Rattle.ofit_num.proofs.Order.{mul_pos, mul_strict}

-- the places of a moved by e/(k·scale)
abbrev pub moved : ℤ → ℕ → (ℕ → Bool) → Trial → Trial
moved e k a t = record {
  value = λ g. t.value g *ℤ pos k +ℤ cond (a g) e (pos 0);
  scale = t.scale * k;
}

differs : (x y : ℤ) → int_eq x y ≡ false → x ≢ y
differs x y e = grind (arith, Decides-int_eq)

raised_pair : (v w : ℤ) (x y : Bool) (k : ℕ) → 0 < k → v ≤ℤ w → (v ≡ w → x ≡ true → y ≡ true) → (v *ℤ pos k +ℤ cond x (pos 1) (pos 0)) ≤ℤ (w *ℤ pos k +ℤ cond y (pos 1) (pos 0))
raised_pair v w false true k l h c = omega (arith, ints, mul_pos v w k h)
raised_pair v w false false k l h c = omega (arith, ints, mul_pos v w k h)
raised_pair v w true true k l h c = omega (arith, ints, mul_pos v w k h)
raised_pair v w true false k l h c = by_lt_z v w
    (λ less. omega (arith, ints, mul_strict v w k less l))
    (λ at_least. absurd (cc (c (omega (arith, ints)) refl)))

lowered_pair : (v w : ℤ) (x y : Bool) (k : ℕ) → 0 < k → v ≤ℤ w → (v ≡ w → y ≡ true → x ≡ true) → (v *ℤ pos k +ℤ cond x (negsuc 0) (pos 0)) ≤ℤ (w *ℤ pos k +ℤ cond y (negsuc 0) (pos 0))
lowered_pair v w true true k l h c = omega (arith, ints, mul_pos v w k h)
lowered_pair v w true false k l h c = omega (arith, ints, mul_pos v w k h)
lowered_pair v w false false k l h c = omega (arith, ints, mul_pos v w k h)
lowered_pair v w false true k l h c = by_lt_z v w
    (λ less. omega (arith, ints, mul_strict v w k less l))
    (λ at_least. absurd (cc (c (omega (arith, ints)) refl)))

raised_low : (o : Option ℤ) (v : ℤ) (x : Bool) (k q : ℕ) → IfSome o (λ lo. (lo *ℤ pos q) ≤ℤ v) → IfSome o (λ lo. (lo *ℤ pos (q * k)) ≤ℤ (v *ℤ pos k +ℤ cond x (pos 1) (pos 0)))
raised_low None v x k q h = tt
raised_low (Some lo) v true k q h = omega (arith, ints, mul_pos _ _ k h, assoc lo (pos q) (pos k))
raised_low (Some lo) v false k q h = omega (arith, ints, mul_pos _ _ k h, assoc lo (pos q) (pos k))

raised_high : (o : Option ℤ) (v : ℤ) (x : Bool) (k q : ℕ) → 0 < k → IfSome o (λ hi. v ≤ℤ (hi *ℤ pos q)) → (x ≡ true → is_at o v q ≡ false) → IfSome o (λ hi. (v *ℤ pos k +ℤ cond x (pos 1) (pos 0)) ≤ℤ (hi *ℤ pos (q * k)))
raised_high None v x k q l h c = tt
raised_high (Some hi) v false k q l h c = omega (arith, ints, mul_pos _ _ k h, assoc hi (pos q) (pos k))
raised_high (Some hi) v true k q l h c = by_lt_z v (hi *ℤ pos q)
    (λ less. omega (arith, ints, mul_strict _ _ k less l, assoc hi (pos q) (pos k)))
    (λ at_least. absurd (differs (hi *ℤ pos q) v (c refl) (omega (arith, ints))))

lowered_high : (o : Option ℤ) (v : ℤ) (x : Bool) (k q : ℕ) → IfSome o (λ hi. v ≤ℤ (hi *ℤ pos q)) → IfSome o (λ hi. (v *ℤ pos k +ℤ cond x (negsuc 0) (pos 0)) ≤ℤ (hi *ℤ pos (q * k)))
lowered_high None v x k q h = tt
lowered_high (Some hi) v true k q h = omega (arith, ints, mul_pos _ _ k h, assoc hi (pos q) (pos k))
lowered_high (Some hi) v false k q h = omega (arith, ints, mul_pos _ _ k h, assoc hi (pos q) (pos k))

lowered_low : (o : Option ℤ) (v : ℤ) (x : Bool) (k q : ℕ) → 0 < k → IfSome o (λ lo. (lo *ℤ pos q) ≤ℤ v) → (x ≡ true → is_at o v q ≡ false) → IfSome o (λ lo. (lo *ℤ pos (q * k)) ≤ℤ (v *ℤ pos k +ℤ cond x (negsuc 0) (pos 0)))
lowered_low None v x k q l h c = tt
lowered_low (Some lo) v false k q l h c = omega (arith, ints, mul_pos _ _ k h, assoc lo (pos q) (pos k))
lowered_low (Some lo) v true k q l h c = by_lt_z (lo *ℤ pos q) v
    (λ less. omega (arith, ints, mul_strict _ _ k less l, assoc lo (pos q) (pos k)))
    (λ at_least. absurd (differs (lo *ℤ pos q) v (c refl) (omega (arith, ints))))

pub Obeys-raised : (s : Problem) (t : Trial) (a : ℕ → Bool) (k : ℕ) → 0 < k → Obeys s t → IsClosedUp s t a → CanRise s t a → Obeys s (moved (pos 1) k a t)
Obeys-raised s t a k l o closed can = record {
  scale = mul-pos o.scale l;
  pairs = λ i d b. raised_pair _ _ _ _ k l (o.pairs i d b) (closed i d b);
  low = λ g b. raised_low (s.bounds g).lo (t.value g) (a g) k t.scale (o.low g b);
  high = λ g b. raised_high (s.bounds g).hi (t.value g) (a g) k t.scale l (o.high g b) (can g b);
}

pub Obeys-lowered : (s : Problem) (t : Trial) (a : ℕ → Bool) (k : ℕ) → 0 < k → Obeys s t → IsClosedDown s t a → CanFall s t a → Obeys s (moved (negsuc 0) k a t)
Obeys-lowered s t a k l o closed can = record {
  scale = mul-pos o.scale l;
  pairs = λ i d b. lowered_pair _ _ _ _ k l (o.pairs i d b) (closed i d b);
  low = λ g b. lowered_low (s.bounds g).lo (t.value g) (a g) k t.scale l (o.low g b) (can g b);
  high = λ g b. lowered_high (s.bounds g).hi (t.value g) (a g) k t.scale (o.high g b);
}
