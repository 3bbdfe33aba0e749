-- What crosses the border of a set, over the first edges of a net and over the others; over pairs, the set's balances.
use Rattle.std.proofs.Common.{◌≡◌, ℕ, suc, ◌<◌, ◌≤◌, ◌+◌, refl, ap, sym, ◌∙◌, subst, arith, Bool, true, false, cond, not, nat_eq, List, [], ◌∷◌, ◌++◌, length, take, drop, length-append}
use Rattle.std.proofs.lemmas.Int.{ints}
use Rattle.std.proofs.lemmas.Bool.{eqb-true}
use Rattle.std.proofs.lemmas.List.{get_or-take, get_or-drop, get_or_append_left, get_or-append-add, length-take-le, length-drop}
use Rattle.std.specs.Prelude.{ℤ, pos, ◌+ℤ◌, ◌-ℤ◌, slice_index_or}
use Rattle.ofit_flow.specs.declared.edge.Edge.{Edge}
use Rattle.ofit_flow.specs.Flow.{no_edge, IsWithin}
use Rattle.ofit_flow.proofs.Crossing.{crossing, crossing_part}
use Rattle.ofit_cut.specs.declared.edges.Ends.{Ends}
use Rattle.ofit_cut.specs.Sets.{AreWithin, set_sum}
use Rattle.ofit_cut.specs.Balance.{balance, pair_at}
use Rattle.ofit_cut.specs.Edges.{pair_edges}
use Rattle.ofit_flow.proofs.Sums.{set_sum-add, set_sum-sub, set_sum-zero}
use Rattle.ofit_cut.proofs.Sums.{set_sum-node}
use Rattle.ofit_cut.proofs.Capacity.{edge_by}

pub crossing-append : (set : ℕ → Bool) (es ds : List Edge) (xs : List ℤ) → length es ≤ length xs → crossing set (es ++ ds) xs ≡ crossing set es (take (length es) xs) +ℤ crossing set ds (drop (length es) xs)
crossing-append set [] ds xs h = omega (arith, ints)
crossing-append set (e ∷ es) ds [] h = absurd (omega arith)
crossing-append set (e ∷ es) ds (x ∷ xs) h = omega (arith, ints, crossing-append set es ds xs (omega arith))

not-part : (p q : Bool) (x : ℤ) → cond (not p) x (pos 0) -ℤ cond (not q) x (pos 0) ≡ pos 0 -ℤ (cond p x (pos 0) -ℤ cond q x (pos 0))
not-part true true x = omega (arith, ints)
not-part true false x = omega (arith, ints)
not-part false true x = omega (arith, ints)
not-part false false x = omega (arith, ints)

-- what leaves the complement enters the set
pub crossing-not : (set : ℕ → Bool) (es : List Edge) (xs : List ℤ) → crossing (λ v. not (set v)) es xs ≡ pos 0 -ℤ crossing set es xs
crossing-not set [] xs = refl
crossing-not set (e ∷ es) [] = refl
crossing-not set (e ∷ es) (x ∷ xs) = omega (arith, ints, crossing-not set es xs, not-part (set e.from) (set e.to) x)

pub within-front : (es ds : List Edge) (xs : List ℤ) → IsWithin (es ++ ds) xs → IsWithin es (take (length es) xs)
within-front es ds xs h =
    let long : length (es ++ ds) ≡ length es + length ds = length-append es ds in
    record {
      counted = length-take-le (length es) xs (omega (arith, h.counted));
      low = λ k l. omega (arith, ints, get_or-take (length es) xs k (pos 0) l, h.low k (omega arith));
      high = λ k l. omega (arith, ints, get_or-take (length es) xs k (pos 0) l, ap (λ (e : Edge). e.cap) (get_or_append_left es ds no_edge k l), h.high k (omega arith));
    }

pub within-back : (es ds : List Edge) (xs : List ℤ) → IsWithin (es ++ ds) xs → IsWithin ds (drop (length es) xs)
within-back es ds xs h =
    let long : length (es ++ ds) ≡ length es + length ds = length-append es ds in
    record {
      counted = omega (arith, length-drop (length es) xs, h.counted);
      low = λ k l. omega (arith, ints, get_or-drop (length es) xs k (pos 0), h.low (length es + k) (omega arith));
      high = λ k l. omega (arith, ints, get_or-drop (length es) xs k (pos 0), ap (λ (e : Edge). e.cap) (get_or-append-add es ds k no_edge), h.high (length es + k) (omega arith));
    }

-- pairs with equal ends carry nothing
abbrev pub AreLoopsEmpty : List (ℕ × ℕ) → List ℤ → Type 0
AreLoopsEmpty pairs amounts = (k : ℕ) → k < length pairs → (pair_at pairs k).0 ≡ (pair_at pairs k).1 → slice_index_or amounts k (pos 0) ≡ pos 0

pair-crossing : (set : ℕ → Bool) (ends : Ends) (pair : ℕ × ℕ) (x : ℤ) (b : Bool) → (b ≡ true → x ≡ pos 0) → crossing_part set (edge_by ends pair b) x ≡ cond (set pair.0) x (pos 0) -ℤ cond (set pair.1) x (pos 0)
pair-crossing set ends pair x true h = subst (λ (z : ℤ). cond (set ends.source) z (pos 0) -ℤ cond (set ends.sink) z (pos 0) ≡ cond (set pair.0) z (pos 0) -ℤ cond (set pair.1) z (pos 0)) (sym (h refl)) (none (set ends.source) (set ends.sink) ∙ sym (none (set pair.0) (set pair.1))) where
  none : (p q : Bool) → cond p (pos 0) (pos 0) -ℤ cond q (pos 0) (pos 0) ≡ pos 0
  none true true = refl
  none true false = refl
  none false true = refl
  none false false = refl
pair-crossing set ends pair x false h = refl

-- over the pairs, the balances of the set's nodes cross its border
pub pairs-crossing : (set : ℕ → Bool) (ends : Ends) (n : ℕ) (ps : List (ℕ × ℕ)) (xs : List ℤ) → AreWithin ps n → AreLoopsEmpty ps xs → crossing set (pair_edges ends ps) xs ≡ set_sum set (balance ps xs) n
pairs-crossing set ends n [] xs inside loops = sym (set_sum-zero set (λ v. pos 0) n (λ v l k. refl))
pairs-crossing set ends n (p ∷ ps) [] inside loops = sym (set_sum-zero set (λ v. pos 0) n (λ v l k. refl))
pairs-crossing set ends n (p ∷ ps) (x ∷ xs) inside loops =
    let first : (p.0 < n) × (p.1 < n) = inside 0 p (omega arith) in
    let all : set_sum set (balance (p ∷ ps) (x ∷ xs)) n ≡ set_sum set (balance ps xs) n +ℤ set_sum set (λ v. cond (nat_eq v p.0) x (pos 0) -ℤ cond (nat_eq v p.1) x (pos 0)) n = set_sum-add set (balance ps xs) (λ v. cond (nat_eq v p.0) x (pos 0) -ℤ cond (nat_eq v p.1) x (pos 0)) n in
    let two : set_sum set (λ v. cond (nat_eq v p.0) x (pos 0) -ℤ cond (nat_eq v p.1) x (pos 0)) n ≡ set_sum set (λ v. cond (nat_eq v p.0) x (pos 0)) n -ℤ set_sum set (λ v. cond (nat_eq v p.1) x (pos 0)) n = set_sum-sub set _ _ n in
    omega (
      arith,
      ints,
      all,
      two,
      set_sum-node set p.0 n x first.0,
      set_sum-node set p.1 n x first.1,
      pair-crossing set ends p x (nat_eq p.0 p.1) (λ e. loops 0 (omega arith) (eqb-true p.0 p.1 e)),
      pairs-crossing set ends n ps xs (λ k d l. inside (suc k) d (omega arith)) (λ k l. loops (suc k) (omega arith)),
    )
