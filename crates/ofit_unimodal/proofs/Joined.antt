-- Rising values and falling ones behind them have a peak where they meet.
use Rattle.std.proofs.Common.{◌≡◌, ℕ, zero, suc, ◌<◌, ◌≤◌, inl, inr, refl, subst, arith}
use Rattle.std.proofs.lemmas.Bool.{cases_lt}
use Rattle.std.proofs.lemmas.Int.{ints, by_lt_z}
use Rattle.std.specs.Prelude.{◌≤ℤ◌}
use Rattle.ofit_num.specs.Trial.{Trial}
use Rattle.ofit_unimodal.specs.Splits.{HasPeakAt}

module _ (n : ℕ) (t : Trial) (some : 0 < n) (scale : 0 < t.scale) where
  -- the next step of a side, or the step between the sides
  low : (i : ℕ) → ((g : ℕ) → suc g < suc i → t.value g ≤ℤ t.value (suc g)) → t.value i ≤ℤ t.value (suc i) → (g : ℕ) → suc g < n → g < suc i → t.value g ≤ℤ t.value (suc g)
  low i rises step g l b = elim (cases_lt g i) [
    | inl less ↦ rises g (omega (arith, less))
    | inr more ↦ let same : i ≡ g = omega (arith, b, more) in subst (λ (h : ℕ). t.value h ≤ℤ t.value (suc h)) same step
  ]

  high : (i : ℕ) → ((g : ℕ) → suc i ≤ g → suc g < n → t.value (suc g) ≤ℤ t.value g) → t.value (suc i) ≤ℤ t.value i → (g : ℕ) → suc g < n → i ≤ g → t.value (suc g) ≤ℤ t.value g
  high i falls step g l b = elim (cases_lt i g) [
    | inl less ↦ falls g (omega (arith, less)) l
    | inr more ↦ let same : i ≡ g = omega (arith, b, more) in subst (λ (h : ℕ). t.value (suc h) ≤ℤ t.value h) same step
  ]

  between : (i : ℕ) → suc i < n → ((g : ℕ) → suc g < suc i → t.value g ≤ℤ t.value (suc g)) → ((g : ℕ) → suc i ≤ g → suc g < n → t.value (suc g) ≤ℤ t.value g) → HasPeakAt n (suc i) t
  between i l rises falls =
      by_lt_z (t.value (suc i)) (t.value i)
      (λ less. record {
        peak = i;
        inside = omega (arith, l);
        near = inr refl;
        unimodal = record { scale = scale; rises = λ g m b. rises g (omega (arith, b)); falls = high i falls (omega (arith, ints, less)) };
      })
      (λ more. record {
        peak = suc i;
        inside = l;
        near = inl refl;
        unimodal = record { scale = scale; rises = low i rises more; falls = λ g m b. falls g b m };
      })

  pub joined_peak : (i : ℕ) → i ≤ n → ((g : ℕ) → suc g < i → t.value g ≤ℤ t.value (suc g)) → ((g : ℕ) → i ≤ g → suc g < n → t.value (suc g) ≤ℤ t.value g) → HasPeakAt n i t
  joined_peak zero l rises falls = record { peak = 0; inside = some; near = inl refl; unimodal = record { scale = scale; rises = λ g m b. absurd (omega (arith, b)); falls = λ g m b. falls g b m } }
  joined_peak (suc i) l rises falls = elim (cases_lt (suc i) n) [
    | inl less ↦ between i less rises falls
    | inr more ↦ record {
      peak = i;
      inside = omega (arith, l);
      near = inr refl;
      unimodal = record { scale = scale; rises = λ g m b. rises g (omega (arith, b)); falls = λ g m b. absurd (omega (arith, m, b, more)) };
    }
  ]
