-- The sides of a peaked sheet, one after another.
use Rattle.std.proofs.Common.{◌≡◌, ℕ, ◌+◌, ◌-◌, ◌<◌, ◌≤◌, List, inl, inr, refl, sym, subst, arith}
use Rattle.std.proofs.lemmas.Bool.{cases_lt}
use Rattle.std.specs.Prelude.{ℤ}
use Rattle.ofit_num.specs.Problem.{Problem}
use Rattle.ofit_num.specs.Verdict.{AllBelow, FailsFirst}
use Rattle.ofit_sheet.specs.Peaked.{Peaked, rise_at, fall_at}
use Rattle.ofit_sheet.specs.PeakVerdict.{IsRiseStep, IsFallStep, KeepsRise, KeepsFall, BreaksRise, BreaksFall, IsReached}

module _ (s : Problem) (x : Peaked) where
  pub rise_kept : (i : ℕ) (side : List (ℤ × ℤ)) → side ≡ rise_at x i → AllBelow (λ j. IsRiseStep (s.rows (0 + j)) side j) i → AllBelow (KeepsRise s x i) i
  rise_kept i side e h k l = subst (λ (t : List (ℤ × ℤ)). IsRiseStep (s.rows k) t k) e (subst (λ (g : ℕ). IsRiseStep (s.rows g) side k) (let a : 0 + k ≡ k = omega arith in a) (h k l))

  rise_back : (i : ℕ) (side : List (ℤ × ℤ)) (k : ℕ) → side ≡ rise_at x i → KeepsRise s x i k → IsRiseStep (s.rows (0 + k)) side k
  rise_back i side k e h = subst (λ (g : ℕ). IsRiseStep (s.rows g) side k) (let a : k ≡ 0 + k = omega arith in a) (subst (λ (t : List (ℤ × ℤ)). IsRiseStep (s.rows k) t k) (sym e) h)

  pub rise_broken : (n i place : ℕ) (side : List (ℤ × ℤ)) → n ≡ s.count → i < n → side ≡ rise_at x (i + 1) → ((k : ℕ) → 1 ≤ k → k ≤ i → AllBelow (KeepsRise s x k) k) → FailsFirst (λ j. IsRiseStep (s.rows (0 + j)) side j) (i + 1) place → BreaksRise s x (i + 1) place
  rise_broken n i place side c l e kept h = record {
    from_one = omega arith;
    most = omega (arith, l, c);
    before = λ k a b. kept k a (omega (arith, b));
    fails = record {
      below = h.below;
      before = λ k m. subst (λ (t : List (ℤ × ℤ)). IsRiseStep (s.rows k) t k) e (subst (λ (g : ℕ). IsRiseStep (s.rows g) side k) (let a : 0 + k ≡ k = omega arith in a) (h.before k m));
      fails = λ f. h.fails (rise_back (i + 1) side place e f);
    };
  }

  pub rise_more : (i : ℕ) (side : List (ℤ × ℤ)) → side ≡ rise_at x (i + 1) → ((k : ℕ) → 1 ≤ k → k ≤ i → AllBelow (KeepsRise s x k) k) → AllBelow (λ j. IsRiseStep (s.rows (0 + j)) side j) (i + 1) → (k : ℕ) → 1 ≤ k → k ≤ i + 1 → AllBelow (KeepsRise s x k) k
  rise_more i side e kept h k a b = elim (cases_lt i k) [
    | inl less ↦ let last : i + 1 ≡ k = omega (arith, less, b) in subst (λ (m : ℕ). AllBelow (KeepsRise s x m) m) last (rise_kept (i + 1) side e h)
    | inr more ↦ kept k a more
  ]

  pub fall_broken : (n i place : ℕ) (side : List (ℤ × ℤ)) → n ≡ s.count → i < n → side ≡ fall_at x i → ((k : ℕ) → k < i → AllBelow (KeepsFall s x k) (s.count - k)) → FailsFirst (λ j. IsFallStep (s.rows (i + j)) side j) (n - i) place → BreaksFall s x i (i + place)
  fall_broken n i place side c l e kept h = record {
    most = omega (arith, l, c);
    before = kept;
    step = place;
    is_place = refl;
    fails = subst (λ (m : ℕ). FailsFirst (KeepsFall s x i) (m - i) place) c (subst (λ (t : List (ℤ × ℤ)). FailsFirst (λ j. IsFallStep (s.rows (i + j)) t j) (n - i) place) e h);
  }

  pub fall_more : (n i : ℕ) (side : List (ℤ × ℤ)) → n ≡ s.count → side ≡ fall_at x i → ((k : ℕ) → k < i → AllBelow (KeepsFall s x k) (s.count - k)) → AllBelow (λ j. IsFallStep (s.rows (i + j)) side j) (n - i) → (k : ℕ) → k < i + 1 → AllBelow (KeepsFall s x k) (s.count - k)
  fall_more n i side c e kept h k l = elim (cases_lt k i) [
    | inl less ↦ kept k less
    | inr more ↦
        let last : i ≡ k = omega (arith, l, more) in
        let own : AllBelow (KeepsFall s x i) (s.count - i) = subst (λ (m : ℕ). AllBelow (KeepsFall s x i) (m - i)) c (subst (λ (t : List (ℤ × ℤ)). AllBelow (λ j. IsFallStep (s.rows (i + j)) t j) (n - i)) e h) in
        subst (λ (m : ℕ). AllBelow (KeepsFall s x m) (s.count - m)) last own
  ]

  pub first_short : (n k : ℕ) → k < n → ((j : ℕ) → j < k → IsReached s x j) → (IsReached s x k → ⊥) → FailsFirst (IsReached s x) n k
  first_short n k l kept fails = record { below = l; before = kept; fails = fails }
