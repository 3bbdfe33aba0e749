-- The pairs turned round: upper sets become lower ones.
use Rattle.std.proofs.Common.{◌≡◌, ℕ, ◌<◌, sym, subst, arith, Bool, true, List, length, map, get_or}
use Rattle.std.proofs.lemmas.List.{length-map, get_or-map}
use Rattle.std.specs.Prelude.{ℤ}
use Rattle.ofit_cut.specs.declared.tie.Tie.{Tie}
use Rattle.ofit_cut.specs.declared.tie.Tie.TheVariants.{Smallest, Largest}
use Rattle.ofit_cut.specs.Sets.{AreWithin, IsUpper, IsLower, turned}
use Rattle.ofit_cut.specs.Greatest.{IsGreatest, IsTied}

-- two kinds that are the same
greatest-same : (K L : (ℕ → Bool) → Type 0) → ((a : ℕ → Bool) → K a → L a) → ((a : ℕ → Bool) → L a → K a) → (ws : List ℤ) (set : ℕ → Bool) → IsGreatest K ws set → IsGreatest L ws set
greatest-same K L there back ws set h = record { of_kind = there set h.of_kind; greatest = λ other k. h.greatest other (back other k) }

tied-same : (K L : (ℕ → Bool) → Type 0) → ((a : ℕ → Bool) → K a → L a) → ((a : ℕ → Bool) → L a → K a) → (tie : Tie) (ws : List ℤ) (set : ℕ → Bool) → IsTied tie K ws set → IsTied tie L ws set
tied-same K L there back Smallest ws set h = record {
  is_greatest = greatest-same K L there back ws set h.is_greatest;
  inside = λ other g. h.inside other (greatest-same L K back there ws other g);
}
tied-same K L there back Largest ws set h = record {
  is_greatest = greatest-same K L there back ws set h.is_greatest;
  around = λ other g. h.around other (greatest-same L K back there ws other g);
}

turned-at : (pairs : List (ℕ × ℕ)) (k : ℕ) (d : ℕ × ℕ) → k < length pairs → get_or (map turned pairs) k (turned d) ≡ turned (get_or pairs k d)
turned-at pairs k d l = get_or-map turned pairs k d (turned d) l

lower-from-turned : (pairs : List (ℕ × ℕ)) (a : ℕ → Bool) → IsUpper (map turned pairs) a → IsLower pairs a
lower-from-turned pairs a up k d l =
    let long : length (map turned pairs) ≡ length pairs = length-map pairs turned in
    subst (λ (p : ℕ × ℕ). a p.0 ≡ true → a p.1 ≡ true) (turned-at pairs k d l) (up k (turned d) (omega arith))

upper-of-turned : (pairs : List (ℕ × ℕ)) (a : ℕ → Bool) → IsLower pairs a → IsUpper (map turned pairs) a
upper-of-turned pairs a low k d l =
    let long : length (map turned pairs) ≡ length pairs = length-map pairs turned in
    subst (λ (p : ℕ × ℕ). a p.0 ≡ true → a p.1 ≡ true) (sym (turned-at pairs k (turned d) (omega arith))) (low k (turned d) (omega arith))

pub lower_from_upper : (pairs : List (ℕ × ℕ)) (tie : Tie) (ws : List ℤ) (set : ℕ → Bool) → IsTied tie (IsUpper (map turned pairs)) ws set → IsTied tie (IsLower pairs) ws set
lower_from_upper pairs tie ws set h = tied-same (IsUpper (map turned pairs)) (IsLower pairs) (lower-from-turned pairs) (upper-of-turned pairs) tie ws set h

pub within_turned : (pairs : List (ℕ × ℕ)) (n : ℕ) → AreWithin pairs n → AreWithin (map turned pairs) n
within_turned pairs n inside k d l =
    let long : length (map turned pairs) ≡ length pairs = length-map pairs turned in
    let i = inside k (turned d) (omega arith) in
    subst (λ (p : ℕ × ℕ). (p.0 < n) × (p.1 < n)) (sym (turned-at pairs k (turned d) (omega arith))) (i.1, i.0)
