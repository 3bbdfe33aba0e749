-- Rising lists of nodes, one node after another.
use Rattle.std.proofs.Common.{◌≡◌, ℕ, ◌<◌, ◌+◌, refl, ap, sym, ◌∙◌, arith, inl, inr, Bool, true, false, not, ◌||◌, nat_eq, List, [], ◌∷◌, ◌++◌, length, length-append, slice_index}
use Rattle.std.proofs.lemmas.Bool.{eq-eqb, ne_eqb, cases_order}
use mathlib.Core.Bool.{beq}
use Rattle.std.proofs.lemmas.List.{get_or_append_left, get_or-append-add}
use Rattle.std.proofs.lemmas.List.Elements.{All-push, All-weaker, All-head, All-tail}
use Rattle.std.specs.List.{All}
use Rattle.std.specs.List.Sorted.{IsStrictlyIncreasing}
use Rattle.ofit_cut.specs.Members.{AreNodes, has_node, is_on_side}

has_node-push : (xs : List ℕ) (x v : ℕ) → has_node (xs ++ x ∷ []) v ≡ (has_node xs v || nat_eq v x)
has_node-push [] x v = or-none (nat_eq v x) where
  or-none : (b : Bool) → (b || false) ≡ b
  or-none true = refl
  or-none false = refl
has_node-push (y ∷ xs) x v = ap (λ (b : Bool). nat_eq v y || b) (has_node-push xs x v) ∙ assoc (nat_eq v y) (has_node xs v) (nat_eq v x) where
  assoc : (a b c : Bool) → (a || (b || c)) ≡ ((a || b) || c)
  assoc true b c = refl
  assoc false b c = refl

-- nodes below n don't have n
has_node-above : (xs : List ℕ) (n : ℕ) → All (λ v. v < n) xs → has_node xs n ≡ false
has_node-above [] n below = refl
has_node-above (x ∷ xs) n below =
    let first : x < n = All-head (λ v. v < n) x xs below in
    ap (λ (b : Bool). b || has_node xs n) (ne_eqb n x (omega arith)) ∙ has_node-above xs n (All-tail (λ v. v < n) x xs below)

pub no_nodes : AreNodes 0 []
no_nodes = record { rising = λ k l. absurd (omega arith); within = λ k d l. absurd (omega arith) }

pub nodes_more : (n : ℕ) (xs : List ℕ) → AreNodes n xs → AreNodes (n + 1) xs
nodes_more n xs h = record { rising = h.rising; within = All-weaker (λ v. v < n) (λ v. v < n + 1) (λ v l. omega arith) xs h.within }

rising-push : (n : ℕ) (xs : List ℕ) → AreNodes n xs → IsStrictlyIncreasing (xs ++ n ∷ [])
rising-push n xs h k l =
    let long : length (xs ++ n ∷ []) ≡ length xs + 1 = length-append xs (n ∷ []) in
    elim (cases_order (k + 1) (length xs)) [
      | inl last ↦ omega (arith, get_or_append_left xs (n ∷ []) 0 k (omega arith), ap (λ (j : ℕ). slice_index (xs ++ n ∷ []) j) last, get_or-append-add xs (n ∷ []) 0 0, ap (λ (j : ℕ). slice_index (xs ++ n ∷ []) j) (plus-none (length xs)), h.within k 0 (omega arith))
      | inr o ↦ elim o [
        | inl below ↦ omega (arith, get_or_append_left xs (n ∷ []) 0 k (omega arith), get_or_append_left xs (n ∷ []) 0 (k + 1) below, h.rising k below)
        | inr above ↦ absurd (omega arith)
      ]
    ] where
      plus-none : (m : ℕ) → m + 0 ≡ m
      plus-none m = omega arith

pub nodes_push : (n : ℕ) (xs : List ℕ) → AreNodes n xs → AreNodes (n + 1) (xs ++ n ∷ [])
nodes_push n xs h = record {
  rising = rising-push n xs h;
  within = All-push (λ v. v < n + 1) xs n (nodes_more n xs h).within (omega arith);
}

-- the listed nodes are those of a set, as far as n
abbrev pub AreSame : List ℕ → (ℕ → Bool) → ℕ → Type 0
AreSame xs set n = (v : ℕ) → v < n → has_node xs v ≡ set v

pub same_push : (n : ℕ) (xs : List ℕ) (set : ℕ → Bool) → AreSame xs set n → set n ≡ true → AreSame (xs ++ n ∷ []) set (n + 1)
same_push n xs set same has v l = elim (cases_order v n) [
  | inl here ↦ has_node-push xs n v ∙ ap (λ (b : Bool). has_node xs v || b) (eq-eqb v n here) ∙ or-true (has_node xs v) ∙ sym (ap set here ∙ has)
  | inr o ↦ elim o [
    | inl below ↦ has_node-push xs n v ∙ ap (λ (b : Bool). has_node xs v || b) (ne_eqb v n (omega arith)) ∙ or-false (has_node xs v) ∙ same v below
    | inr above ↦ absurd (omega arith)
  ]
] where
  or-true : (b : Bool) → (b || true) ≡ true
  or-true true = refl
  or-true false = refl

  or-false : (b : Bool) → (b || false) ≡ b
  or-false true = refl
  or-false false = refl

pub same_skip : (n : ℕ) (xs : List ℕ) (set : ℕ → Bool) → AreNodes n xs → AreSame xs set n → set n ≡ false → AreSame xs set (n + 1)
same_skip n xs set h same lacks v l = elim (cases_order v n) [
  | inl here ↦ ap (has_node xs) here ∙ has_node-above xs n h.within ∙ sym (ap set here ∙ lacks)
  | inr o ↦ elim o [ inl below ↦ same v below | inr above ↦ absurd (omega arith) ]
]

-- what a test of a node's side tells
pub on_side : (set : ℕ → Bool) (inside s : Bool) (v : ℕ) → s ≡ set v → beq s inside ≡ true → is_on_side set inside v ≡ true
on_side set true true v same test = sym same
on_side set true false v same test = absurd (cc test)
on_side set false true v same test = absurd (cc test)
on_side set false false v same test = ap not (sym same)

pub off_side : (set : ℕ → Bool) (inside s : Bool) (v : ℕ) → s ≡ set v → beq s inside ≡ false → is_on_side set inside v ≡ false
off_side set true true v same test = absurd (cc test)
off_side set true false v same test = sym same
off_side set false true v same test = ap not (sym same)
off_side set false false v same test = absurd (cc test)
