-- What the counts of neighbours say of the steps that lead on from a place.
use Rattle.std.proofs.Common.{◌≡◌, ℕ, ◌<◌, ◌≤◌, ◌==◌, ◌⊎◌, cond, inl, inr, List, [], ◌∷◌, length, get_or, refl, sym, subst, ap, ◌∙◌, arith, eq-eqb, suc, zero}
use Rattle.std.specs.List.{Contains, count_by}
use Rattle.std.proofs.lemmas.Bool.Decides.{eqb_tells}
use Rattle.std.proofs.lemmas.List.Sums.{sum_by-cons, get_or-le-sum_by}
use Rattle.ofit_order.specs.Connection.{LeadsUp}
use Rattle.ofit_order.specs.Shape.{LeadsDown, LeadsOnce}
use Rattle.ofit_order.specs.Form.{higher_count, lower_count}

pub record Counts (Step : ℕ → ℕ → Type 0) (f : ℕ → ℕ) : Type 0 where
  pub none : (a b : ℕ) → f a ≡ 0 → Step a b → ⊥
  pub one : (a : ℕ) → f a ≡ 1 → LeadsOnce Step a
  pub same : (a b c : ℕ) → f a ≤ 1 → Step a b → Step a c → b ≡ c

-- a list of pairs, from its first
Contains-pair_cases : (q : ℕ × ℕ) (qs : List (ℕ × ℕ)) (p : ℕ × ℕ) (k : ℕ) → k < length (q ∷ qs) → get_or (q ∷ qs) k p ≡ p → (q ≡ p) ⊎ Contains qs p
Contains-pair_cases q qs p zero l e = inl e
Contains-pair_cases q qs p (suc k) l e = inr (k, omega (arith, l), e)

pub Contains-pair_head : (q : ℕ × ℕ) (qs : List (ℕ × ℕ)) → Contains (q ∷ qs) q
Contains-pair_head q qs = (0, omega arith, refl)

pub Contains-pair_cons : (q : ℕ × ℕ) (qs : List (ℕ × ℕ)) (p : ℕ × ℕ) → Contains qs p → Contains (q ∷ qs) p
Contains-pair_cons q qs p h = (suc h.0, omega (arith, h.1), h.2)

abbrev count_at : (ℕ × ℕ → ℕ) → List (ℕ × ℕ) → ℕ → ℕ
count_at key ps a = count_by (λ p. key p == a) ps

pub count_some : (key : ℕ × ℕ → ℕ) (ps : List (ℕ × ℕ)) (p : ℕ × ℕ) → Contains ps p → 1 ≤ count_at key ps (key p)
count_some key ps p h =
    let test = λ (q : ℕ × ℕ). cond (key q == key p) 1 0 in
    let bound = get_or-le-sum_by test ps h.0 p h.1 in
    let here : ◌≡◌ {A = ℕ} (test (get_or ps h.0 p)) 1 = ap test h.2 ∙ rw (eq-eqb (key p) (key p) refl) in
    omega (arith, bound, here)

count_once : (key : ℕ × ℕ → ℕ) (ps : List (ℕ × ℕ)) (p q : ℕ × ℕ) → key p ≡ key q → count_at key ps (key p) ≤ 1 → Contains ps p → Contains ps q → p ≡ q
count_once key [] p q e few h k = absurd (omega (arith, h.1))
count_once key (r ∷ rs) p q e few h k =
    let more = sum_by-cons (λ (t : ℕ × ℕ). cond (key t == key p) 1 0) r rs in
    elim (Contains-pair_cases r rs p h.0 h.1 h.2) [
      | inl at_p ↦ elim (Contains-pair_cases r rs q k.0 k.1 k.2) [
        | inl at_q ↦ sym at_p ∙ at_q
        | inr in_q ↦
            let here : ◌≡◌ {A = ℕ} (cond (key r == key p) 1 0) 1 = rw (eq-eqb (key r) (key p) (ap key at_p)) in
            let there = subst (λ (t : ℕ). 1 ≤ count_at key rs t) (sym e) (count_some key rs q in_q) in
            absurd (omega (arith, more, here, there, few))
      ]
      | inr in_p ↦ elim (Contains-pair_cases r rs q k.0 k.1 k.2) [
        | inl at_q ↦
            let here : ◌≡◌ {A = ℕ} (cond (key r == key p) 1 0) 1 = rw (eq-eqb (key r) (key p) (ap key at_q ∙ sym e)) in
            let there = count_some key rs p in_p in
            absurd (omega (arith, more, here, there, few))
        | inr in_q ↦ count_once key rs p q e (omega (arith, more, few)) in_p in_q
      ]
    ]

pub count_exists : (key : ℕ × ℕ → ℕ) (ps : List (ℕ × ℕ)) (a : ℕ) → 1 ≤ count_at key ps a → (p : ℕ × ℕ) × (key p ≡ a) × Contains ps p
count_exists key [] a l = absurd (omega (arith, l))
count_exists key (r ∷ rs) a l =
    let more = sum_by-cons (λ (t : ℕ × ℕ). cond (key t == a) 1 0) r rs in
    elim (eqb_tells (key r) a) [
      | inl here ↦ (r, here.1, Contains-pair_head r rs)
      | inr apart ↦
          let nothing : ◌≡◌ {A = ℕ} (cond (key r == a) 1 0) 0 = rw apart.0 in
          let rest = count_exists key rs a (omega (arith, more, nothing, l)) in
          (rest.0, rest.1, Contains-pair_cons r rs rest.0 rest.2)
    ]

pub Counts-higher : (ps : List (ℕ × ℕ)) → Counts (LeadsUp ps) (higher_count ps)
Counts-higher ps =
    let key = λ (p : ℕ × ℕ). p.0 in
    let same : (a b c : ℕ) → higher_count ps a ≤ 1 → LeadsUp ps a b → LeadsUp ps a c → b ≡ c =
    λ a b c few h k. ap (λ (p : ℕ × ℕ). p.1) (count_once key ps (a, b) (a, c) refl few h k) in
    record {
      none = λ a b e h. let l = count_some key ps (a, b) h in omega (arith, e, l);
      one = λ a e.
          let found = count_exists key ps a (omega (arith, e)) in
          let leads : LeadsUp ps a found.0.1 = subst (λ (t : ℕ). Contains ps (t, found.0.1)) found.1 found.2 in
          record { next = found.0.1; leads = leads; only = λ b h. same a b found.0.1 (omega (arith, e)) h leads };
      same = same;
    }

pub Counts-lower : (ps : List (ℕ × ℕ)) → Counts (LeadsDown ps) (lower_count ps)
Counts-lower ps =
    let key = λ (p : ℕ × ℕ). p.1 in
    let same : (a b c : ℕ) → lower_count ps a ≤ 1 → LeadsDown ps a b → LeadsDown ps a c → b ≡ c =
    λ a b c few h k. ap (λ (p : ℕ × ℕ). p.0) (count_once key ps (b, a) (c, a) refl few h k) in
    record {
      none = λ a b e h. let l = count_some key ps (b, a) h in omega (arith, e, l);
      one = λ a e.
          let found = count_exists key ps a (omega (arith, e)) in
          let leads : LeadsDown ps a found.0.0 = subst (λ (t : ℕ). Contains ps (found.0.0, t)) found.1 found.2 in
          record { next = found.0.0; leads = leads; only = λ b h. same a b found.0.0 (omega (arith, e)) h leads };
      same = same;
    }
