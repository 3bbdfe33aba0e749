-- The drawn pairs of a made study.
use Rattle.std.proofs.Common.{◌≡◌, ◌≤◌, ◌<◌, ◌+◌, ◌-◌, ◌*◌, ◌%◌, ◌++◌, ◌∙◌, ℕ, zero, suc, List, [], ◌∷◌, length, refl, sym, ap, subst, arith, append_assoc, append-nil}
use Rattle.std.specs.Prelude.{All}
use Rattle.std.specs.List.{flat_map, range_with_len}
use Rattle.std.proofs.lemmas.List.{length-append}
use Rattle.std.proofs.lemmas.List.Concat.{flat_map-append}
use Rattle.std.proofs.lemmas.List.Elements.{All-append, All-cons, All-nil}
use Rattle.ofit_num.proofs.Ranges.{range-push}
use Rattle.ofit_sample.specs.Generator.{next_number, number_after, drawn}
use Rattle.ofit_sample.specs.Made.{all_drawn, pairs_drawn}
use Rattle.ofit_sample.proofs.Stepped.{after_next, after_two}

-- the pairs of so many groups behind the first, and the generator's number behind them
pub record AreDrawn (seed draws k : ℕ) (pairs : List (ℕ × ℕ)) (x : ℕ) : Type 0 where
  pub pairs_are : pairs ≡ flat_map (pairs_drawn seed draws) (range_with_len 0 k)
  pub number_is : x ≡ number_after seed (draws + 2 * k)

pub none_drawn : (seed draws : ℕ) (x : ℕ) → x ≡ number_after seed draws → AreDrawn seed draws 0 [] x
none_drawn seed draws x is = record { pairs_are = refl; number_is = is ∙ (let same : draws ≡ draws + 2 * 0 = omega arith in ap (λ (n : ℕ). number_after seed n) same) }

flat-push : {A : Type 0} (f : ℕ → List A) (k : ℕ) → flat_map f (range_with_len 0 (k + 1)) ≡ flat_map f (range_with_len 0 k) ++ f k
flat-push {A} f k =
    let next : k + 1 ≡ suc k = omega arith in
    let last : 0 + k ≡ k = omega arith in
    ap (λ (n : ℕ). flat_map f (range_with_len 0 n)) next
    ∙ ap (flat_map f) (range-push 0 k)
    ∙ flat_map-append f (range_with_len 0 k) ((0 + k) ∷ [])
    ∙ ap (λ (t : List A). flat_map f (range_with_len 0 k) ++ t) (append-nil (f (0 + k)))
    ∙ ap (λ (n : ℕ). flat_map f (range_with_len 0 k) ++ f n) last

abbrev pair_of : ℕ → ℕ → ℕ × ℕ
pair_of low high = (low, high)

pub more_drawn : (seed draws place : ℕ) (pairs one two : List (ℕ × ℕ)) (x y z a b : ℕ) → 1 ≤ place → AreDrawn seed draws (place - 1) pairs x → y ≡ next_number x → z ≡ next_number y → a ≡ y % place → b ≡ z % place
    → one ≡ pairs ++ (a, place) ∷ [] → two ≡ one ++ (b, place) ∷ [] → AreDrawn seed draws (place + 1 - 1) two z
more_drawn seed draws place pairs one two x y z a b some h first second a_is b_is push_one push_two =
    let k = place - 1 in
    let at : place ≡ k + 1 = omega (arith, some) in
    let more : k + 1 ≡ place + 1 - 1 = omega (arith, some) in
    let y_is : y ≡ number_after seed (draws + 2 * k + 1) = first ∙ ap next_number h.number_is ∙ sym (after_next seed (draws + 2 * k)) in
    let z_is : z ≡ number_after seed (draws + 2 * k + 2) = second ∙ ap next_number (first ∙ ap next_number h.number_is) ∙ sym (after_two seed (draws + 2 * k)) in
    let number : draws + 2 * k + 2 ≡ draws + 2 * (k + 1) = omega arith in
    let high : pair_of a place ≡ pair_of (drawn seed (draws + 2 * k + 1) (k + 1)) (k + 1) = ap (λ (n : ℕ). pair_of n place) a_is ∙ ap (λ (n : ℕ). pair_of (y % n) n) at ∙ ap (λ (n : ℕ). pair_of (n % (k + 1)) (k + 1)) y_is in
    let low : pair_of b place ≡ pair_of (drawn seed (draws + 2 * k + 2) (k + 1)) (k + 1) = ap (λ (n : ℕ). pair_of n place) b_is ∙ ap (λ (n : ℕ). pair_of (z % n) n) at ∙ ap (λ (n : ℕ). pair_of (n % (k + 1)) (k + 1)) z_is in
    let both : two ≡ pairs ++ pairs_drawn seed draws k =
    push_two
    ∙ ap (λ (t : List (ℕ × ℕ)). t ++ (b, place) ∷ []) push_one
    ∙ append_assoc pairs ((a, place) ∷ []) ((b, place) ∷ [])
    ∙ ap (λ (e : ℕ × ℕ). pairs ++ e ∷ (b, place) ∷ []) high
    ∙ ap (λ (e : ℕ × ℕ). pairs ++ (drawn seed (draws + 2 * k + 1) (k + 1), k + 1) ∷ e ∷ []) low in
    let all : AreDrawn seed draws (k + 1) two z = record {
      pairs_are = both ∙ ap (λ (t : List (ℕ × ℕ)). t ++ pairs_drawn seed draws k) h.pairs_are ∙ sym (flat-push (pairs_drawn seed draws) k);
      number_is = z_is ∙ ap (λ (n : ℕ). number_after seed n) number;
    } in
    subst (λ (n : ℕ). AreDrawn seed draws n two z) more all

all-flat : {A : Type 0} (P : A → Type 0) (f : ℕ → List A) (a n : ℕ) → ((i : ℕ) → i < a + n → All P (f i)) → All P (flat_map f (range_with_len a n))
all-flat P f a zero h = All-nil P
all-flat P f a (suc n) h = All-append P (f a) (flat_map f (range_with_len (a + 1) n)) (h a (omega arith)) (all-flat P f (a + 1) n (λ i l. h i (omega (arith, l))))

abbrev IsInside : ℕ → ℕ × ℕ → Type 0
IsInside n e = (e.0 < n) × (e.1 < n)

pub drawn-inside : (seed draws groups : ℕ) → 1 ≤ groups → All (λ e. (e.0 < groups) × (e.1 < groups)) (all_drawn seed draws groups)
drawn-inside seed draws groups some = all-flat (IsInside groups) (pairs_drawn seed draws) 0 (groups - 1) each
  where
    below : (draw k : ℕ) → k + 1 < groups → drawn seed draw (k + 1) < groups
    below draw k l = omega (arith, l)

    each : (k : ℕ) → k < 0 + (groups - 1) → All (IsInside groups) (pairs_drawn seed draws k)
    each k l =
        let room : k + 1 < groups = omega (arith, l, some) in
        All-cons (IsInside groups) (drawn seed (draws + 2 * k + 1) (k + 1), k + 1) ((drawn seed (draws + 2 * k + 2) (k + 1), k + 1) ∷ []) (below (draws + 2 * k + 1) k room, room)
        (All-cons (IsInside groups) (drawn seed (draws + 2 * k + 2) (k + 1), k + 1) [] (below (draws + 2 * k + 2) k room, room) (All-nil (IsInside groups)))

drawn-count : (seed draws a n : ℕ) → length (flat_map (pairs_drawn seed draws) (range_with_len a n)) ≡ 2 * n
drawn-count seed draws a zero = omega arith
drawn-count seed draws a (suc n) = omega (arith, length-append (pairs_drawn seed draws a) (flat_map (pairs_drawn seed draws) (range_with_len (a + 1) n)), drawn-count seed draws (a + 1) n)

pub drawn-few : (seed draws groups : ℕ) → groups ≤ 2000 → length (all_drawn seed draws groups) ≤ 20000
drawn-few seed draws groups h = omega (arith, drawn-count seed draws 0 (groups - 1), h)
