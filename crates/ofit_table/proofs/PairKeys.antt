-- A pair among pairs.
use Rattle.std.proofs.Common.{◌≡◌, ◌≢◌, ℕ, List, [], ◌∷◌, ◌++◌, Bool, true, false, nat_eq, refl, sym, ap, ap₂, eq-eqb, if◌then◌else◌}
use Rattle.std.specs.Prelude.{◌&&◌, ◌||◌, All, Contains}
use Rattle.std.specs.Bool.{MatchBool}
use Rattle.std.specs.List.{list_any}
use Rattle.std.proofs.lemmas.Bool.{eqb-true}
use Rattle.std.proofs.lemmas.List.Elements.{All-cons, All-nil, All-weaker}
use Rattle.std.proofs.lemmas.List.Folds.{list_any_none}
use Rattle.indexmap.proofs.CallerLemmas.{Contains-list_any}

abbrev pub pair_eq : ℕ × ℕ → ℕ × ℕ → Bool
pair_eq x y = nat_eq x.0 y.0 && nat_eq x.1 y.1

both : (a b : Bool) → (a && b) ≡ true → (a ≡ true) × (b ≡ true)
both true b e = (refl, e)
both false b e = cc

pair_same : (x y : ℕ × ℕ) → pair_eq x y ≡ true → x ≡ y
pair_same x y e =
    let h = both (nat_eq x.0 y.0) (nat_eq x.1 y.1) e in
    ap₂ (λ (a b : ℕ). (a, b)) (eqb-true x.0 y.0 h.0) (eqb-true x.1 y.1 h.1)

pair_itself : (x y : ℕ × ℕ) → y ≡ x → pair_eq x y ≡ true
pair_itself x y e =
    let first = eq-eqb x.0 y.0 (sym (ap (λ (p : ℕ × ℕ). p.0) e)) in
    let second = eq-eqb x.1 y.1 (sym (ap (λ (p : ℕ × ℕ). p.1) e)) in
    ap₂ (λ (a b : Bool). a && b) first second

pair_other : (x y : ℕ × ℕ) → y ≢ x → pair_eq x y ≡ false
pair_other x y h = by (pair_eq x y) refl
  where
    by : (b : Bool) → pair_eq x y ≡ b → pair_eq x y ≡ false
    by true e = absurd (h (sym (pair_same x y e)))
    by false e = e

pair_differs : (x y : ℕ × ℕ) → pair_eq x y ≡ false → y ≢ x
pair_differs x y e same = two (pair_eq x y) (pair_itself x y same) e
  where
    two : (b : Bool) → b ≡ true → b ≡ false → ⊥
    two b p q = cc

neither : (a b : Bool) → (a || b) ≡ false → (a ≡ false) × (b ≡ false)
neither true b e = cc
neither false b e = (refl, e)

none_of : (q : ℕ × ℕ) (keys : List (ℕ × ℕ)) → list_any (pair_eq q) keys ≡ false → All (λ known. known ≢ q) keys
none_of q [] e = All-nil (λ known. known ≢ q)
none_of q (x ∷ keys) e =
    let h = neither (pair_eq q x) (list_any (pair_eq q) keys) e in
    All-cons (λ known. known ≢ q) x keys (pair_differs q x h.0) (none_of q keys h.1)

pub has_cases : (b : Bool) (keys : List (ℕ × ℕ)) (q : ℕ × ℕ) → b ≡ list_any (pair_eq q) keys → MatchBool b (Contains keys q) (All (λ known. known ≢ q) keys)
has_cases true keys q e = Contains-list_any pair_eq pair_same keys q (sym e)
has_cases false keys q e = none_of q keys (sym e)

-- a new pair goes last
pub added : (q : ℕ × ℕ) (keys : List (ℕ × ℕ)) → All (λ known. known ≢ q) keys → (if list_any (pair_eq q) keys then keys else keys ++ q ∷ []) ≡ keys ++ q ∷ []
added q keys h = ap (λ (b : Bool). if b then keys else keys ++ q ∷ []) (list_any_none (pair_eq q) keys (All-weaker (λ known. known ≢ q) (λ known. pair_eq q known ≡ false) (λ x n. pair_other q x n) keys h))
