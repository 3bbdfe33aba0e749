-- The trials that obey an umbrella are the unimodal ones with its peak.
use Rattle.std.proofs.Common.{◌≡◌, ℕ, zero, suc, ◌+◌, ◌-◌, ◌<◌, ◌≤◌, List, [], ◌∷◌, ◌++◌, map, Option, Some, None, inl, inr, sym, subst, arith}
use Rattle.std.proofs.lemmas.Bool.{cases_lt}
use Rattle.std.proofs.lemmas.List.Elements.{All-nil, All-cons, All-head, All-tail, All-append}
use Rattle.std.specs.Prelude.{ℤ, ◌≤ℤ◌, ◌↔◌, All, IfSome}
use Rattle.std.specs.List.{range_with_len}
use Rattle.ofit_num.specs.Problem.{Problem}
use Rattle.ofit_num.specs.Trial.{Trial}
use Rattle.ofit_num.specs.Fit.{Obeys}
use Rattle.ofit_sheet.specs.Unimodal.{IsUnimodal, umbrella}
use Rattle.ofit_sheet.specs.Unbounded.{HasNoBounds}

module _ (P : ℕ × ℕ → Type 0) (f : ℕ → ℕ × ℕ) where
  listed : (a m : ℕ) → ((i : ℕ) → a ≤ i → i < a + m → P (f i)) → All P (map f (range_with_len a m))
  listed a zero h = All-nil P
  listed a (suc m) h = All-cons P (f a) (map f (range_with_len (a + 1) m)) (h a (omega arith) (omega arith)) (listed (a + 1) m (λ i l u. h i (omega (arith, l)) (omega (arith, u))))

  each : (a m : ℕ) → All P (map f (range_with_len a m)) → (i : ℕ) → a ≤ i → i < a + m → P (f i)
  each a zero h i l u = absurd (omega (arith, l, u))
  each a (suc m) h i l u = elim (cases_lt a i) [
    | inl less ↦ each (a + 1) m (All-tail P (f a) (map f (range_with_len (a + 1) m)) h) i (omega (arith, less)) (omega (arith, u))
    | inr more ↦ let same : a ≡ i = omega (arith, l, more) in subst (λ (j : ℕ). P (f j)) same (All-head P (f a) (map f (range_with_len (a + 1) m)) h)
  ]

front : (P : ℕ × ℕ → Type 0) (xs ys : List (ℕ × ℕ)) → All P (xs ++ ys) → All P xs
front P [] ys h = All-nil P
front P (x ∷ xs) ys h = All-cons P x xs (All-head P x (xs ++ ys) h) (front P xs ys (All-tail P x (xs ++ ys) h))

behind : (P : ℕ × ℕ → Type 0) (xs ys : List (ℕ × ℕ)) → All P (xs ++ ys) → All P ys
behind P [] ys h = h
behind P (x ∷ xs) ys h = behind P xs ys (All-tail P x (xs ++ ys) h)

none_low : (o : Option ℤ) (P : ℤ → Type 0) → o ≡ None → IfSome o P
none_low None P e = tt
none_low (Some z) P e = absurd (cc)

next : (i : ℕ) → i + 1 ≡ suc i
next i = omega arith

module _ (s : Problem) (peak : ℕ) (inside : peak < s.count) (free : HasNoBounds s) (t : Trial) where
  abbrev Along : ℕ × ℕ → Type 0
  Along e = t.value e.0 ≤ℤ t.value e.1

  abbrev up : List (ℕ × ℕ)
  up = map (λ i. (i, i + 1)) (range_with_len 0 peak)

  abbrev down : List (ℕ × ℕ)
  down = map (λ i. (i + 1, i)) (range_with_len peak (s.count - 1 - peak))

  unimodal_obeys : IsUnimodal s.count peak t → Obeys (umbrella s peak) t
  unimodal_obeys h = record {
    scale = h.scale;
    pairs = All-append Along up down
        (listed Along (λ i. (i, i + 1)) 0 peak (λ i l u. subst (λ (j : ℕ). t.value i ≤ℤ t.value j) (sym (next i)) (h.rises i (omega (arith, u, inside)) (omega (arith, u)))))
        (listed Along (λ i. (i + 1, i)) peak (s.count - 1 - peak) (λ i l u. subst (λ (j : ℕ). t.value j ≤ℤ t.value i) (sym (next i)) (h.falls i (omega (arith, u, inside)) l)));
    low = λ g l. none_low (s.bounds g).lo _ (free g l).lo;
    high = λ g l. none_low (s.bounds g).hi _ (free g l).hi;
  }

  obeys_unimodal : Obeys (umbrella s peak) t → IsUnimodal s.count peak t
  obeys_unimodal h = record {
    scale = h.scale;
    rises = λ g l b. subst (λ (j : ℕ). t.value g ≤ℤ t.value j) (next g) (each Along (λ i. (i, i + 1)) 0 peak (front Along up down h.pairs) g (omega arith) (omega (arith, b)));
    falls = λ g l b. subst (λ (j : ℕ). t.value j ≤ℤ t.value g) (next g) (each Along (λ i. (i + 1, i)) peak (s.count - 1 - peak) (behind Along up down h.pairs) g b (omega (arith, l, b)));
  }

  pub umbrella_told : IsUnimodal s.count peak t ↔ Obeys (umbrella s peak) t
  umbrella_told = (unimodal_obeys, obeys_unimodal)
