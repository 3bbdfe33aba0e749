-- Lists over ranges of places.
use Rattle.std.proofs.Common.{◌≡◌, ◌≤◌, ◌<◌, ◌+◌, ◌-◌, ◌++◌, ◌∙◌, ℕ, zero, suc, List, [], ◌∷◌, map, sym, ap, append_assoc, arith}
use Rattle.std.specs.List.{All, range_with_len}
use Rattle.std.proofs.lemmas.List.Elements.{All-cons, All-nil}
use Rattle.std.proofs.lemmas.List.{map-append}

pub range-push : (a n : ℕ) → range_with_len a (suc n) ≡ range_with_len a n ++ (a + n) ∷ []
range-push a zero = ap (λ (t : ℕ). t ∷ []) (omega arith)
range-push a (suc n) = ap (λ (t : List ℕ). a ∷ t) (range-push (a + 1) n ∙ ap (λ (t : ℕ). range_with_len (a + 1) n ++ t ∷ []) (omega arith))

-- one place more
pub range-next : {X : Type 0} (f : ℕ → X) (a i : ℕ) → a ≤ i → map f (range_with_len a (i + 1 - a)) ≡ map f (range_with_len a (i - a)) ++ f i ∷ []
range-next f a i h =
    let next : i + 1 - a ≡ suc (i - a) = omega arith in
    let last : a + (i - a) ≡ i = omega arith in
    ap (λ (t : ℕ). map f (range_with_len a t)) next
    ∙ ap (map f) (range-push a (i - a))
    ∙ map-append f (range_with_len a (i - a)) ((a + (i - a)) ∷ [])
    ∙ ap (λ (t : ℕ). map f (range_with_len a (i - a)) ++ f t ∷ []) last

-- what is pushed for one place more
pub pushed-next : {X : Type 0} (f : ℕ → X) (a i : ℕ) (old now new : List X) → a ≤ i → now ≡ old ++ map f (range_with_len a (i - a)) → new ≡ now ++ f i ∷ []
    → new ≡ old ++ map f (range_with_len a (i + 1 - a))
pushed-next f a i old now new h e p =
    p ∙ ap (λ (t : List _). t ++ f i ∷ []) e ∙ append_assoc old (map f (range_with_len a (i - a))) (f i ∷ []) ∙ ap (λ (t : List _). old ++ t) (sym (range-next f a i h))

pub pushed-first : {X : Type 0} (f : ℕ → X) (i : ℕ) (old now new : List X) → now ≡ old ++ map f (range_with_len 0 i) → new ≡ now ++ f i ∷ [] → new ≡ old ++ map f (range_with_len 0 (i + 1))
pushed-first f i old now new e p = pushed-next f 0 i old now new (omega arith) (e ∙ ap (λ (t : ℕ). old ++ map f (range_with_len 0 t)) (omega arith)) p ∙ ap (λ (t : ℕ). old ++ map f (range_with_len 0 t)) (omega arith)

-- what holds at each place of a range
pub all-range : {X : Type 0} (P : X → Type 0) (f : ℕ → X) (a n : ℕ) → ((i : ℕ) → a ≤ i → i < a + n → P (f i)) → All P (map f (range_with_len a n))
all-range P f a zero h = All-nil P
all-range P f a (suc n) h = All-cons P (f a) (map f (range_with_len (a + 1) n)) (h a (omega arith) (omega arith)) (all-range P f (a + 1) n (λ i low high. h i (omega arith) (omega arith)))
