-- the pairs of a tree, and walks towards its root
use Rattle.std.proofs.Common.{◌≡◌, ℕ, zero, suc, ◌+◌, ◌<◌, ◌≤◌, refl, sym, ap, subst, ◌∙◌, arith, Bool, true, false, ◌||◌, List, [], ◌∷◌, length, ◌⊎◌, inl, inr}
use Rattle.std.proofs.lemmas.Bool.{cases_eq, cases_lt}
use Rattle.std.proofs.lemmas.Option.{slice_get_within, none-some}
use Rattle.std.proofs.lemmas.List.Elements.{All-nil, All-cons, All-head, All-tail}
use Rattle.std.specs.Prelude.{All, Option, Some, None}
use Rattle.ofit_num.proofs.Parts.{base_in, child_in}
use Rattle.ofit_tree.specs.declared.direction.Direction.{Direction}
use Rattle.ofit_tree.specs.declared.direction.Direction.TheVariants.{RootGreatest, RootLeast}
use Rattle.ofit_tree.specs.Tree.{pair_of, pairs_from, tree_pairs, IsParent, Climbs, IsRootedTree}

same_parent : (p q : ℕ) → ◌≡◌ {A = Option (Option ℕ)} (Some (Some p)) (Some (Some q)) → p ≡ q
same_parent p q e = cc

none_parent : (p : ℕ) → ◌≡◌ {A = Option (Option ℕ)} (Some None) (Some (Some p)) → ⊥
none_parent p e = cc

-- what holds of each pair holds of each place with its parent, and the other way round
from_pairs : (P : ℕ × ℕ → Type 0) (d : Direction) (parents : List (Option ℕ)) (c : ℕ) → All P (pairs_from d c parents) → (i p : ℕ) → IsParent parents i p → P (pair_of d (c + i) p)
from_pairs P d [] c h i p e = absurd (none-some (Some p) e)
from_pairs P d (None ∷ parents) c h zero p e = absurd (none_parent p e)
from_pairs P d (None ∷ parents) c h (suc i) p e = subst (λ (n : ℕ). P (pair_of d n p)) (omega arith) (from_pairs P d parents (suc c) h i p e)
from_pairs P d (Some q ∷ parents) c h zero p e =
    subst (λ (n : ℕ). P (pair_of d n p)) (omega arith) (subst (λ (n : ℕ). P (pair_of d c n)) (same_parent q p e) (All-head P (pair_of d c q) (pairs_from d (suc c) parents) h))
from_pairs P d (Some q ∷ parents) c h (suc i) p e =
    subst (λ (n : ℕ). P (pair_of d n p)) (omega arith) (from_pairs P d parents (suc c) (All-tail P (pair_of d c q) (pairs_from d (suc c) parents) h) i p e)

into_pairs : (P : ℕ × ℕ → Type 0) (d : Direction) (parents : List (Option ℕ)) (c : ℕ) → ((i p : ℕ) → IsParent parents i p → P (pair_of d (c + i) p)) → All P (pairs_from d c parents)
into_pairs P d [] c h = All-nil P
into_pairs P d (None ∷ parents) c h = into_pairs P d parents (suc c) (λ i p e. subst (λ (n : ℕ). P (pair_of d n p)) (omega arith) (h (suc i) p e))
into_pairs P d (Some q ∷ parents) c h = All-cons P (pair_of d c q) (pairs_from d (suc c) parents)
    (subst (λ (n : ℕ). P (pair_of d n q)) (omega arith) (h zero q refl))
    (into_pairs P d parents (suc c) (λ i p e. subst (λ (n : ℕ). P (pair_of d n p)) (omega arith) (h (suc i) p e)))

pub pair_at : (P : ℕ × ℕ → Type 0) (d : Direction) (parents : List (Option ℕ)) → All P (tree_pairs d parents) → (g p : ℕ) → IsParent parents g p → P (pair_of d g p)
pair_at P d parents h g p e = subst (λ (n : ℕ). P (pair_of d n p)) (omega arith) (from_pairs P d parents 0 h g p e)

pub each_pair : (P : ℕ × ℕ → Type 0) (d : Direction) (parents : List (Option ℕ)) → ((g p : ℕ) → IsParent parents g p → P (pair_of d g p)) → All P (tree_pairs d parents)
each_pair P d parents h = into_pairs P d parents 0 (λ i p e. subst (λ (n : ℕ). P (pair_of d n p)) (omega arith) (h i p e))

-- a place has one parent
pub one_parent : (parents : List (Option ℕ)) (g p q : ℕ) → IsParent parents g p → IsParent parents g q → p ≡ q
one_parent parents g p q e f = same_parent p q (sym e ∙ f)

module _ (parents : List (Option ℕ)) (tree : IsRootedTree parents) where
  pub child_below : (g p : ℕ) → IsParent parents g p → g < length parents
  child_below g p e = slice_get_within parents g (Some p) e

  pub parent_below : (g p : ℕ) → IsParent parents g p → p < length parents
  parent_below g p e = tree.places g p e

  pub places : (d : Direction) → All (λ e. (e.0 < length parents) × (e.1 < length parents)) (tree_pairs d parents)
  places d = each_pair (λ e. (e.0 < length parents) × (e.1 < length parents)) d parents (both d) where
    both : (d : Direction) (g p : ℕ) → IsParent parents g p → ((pair_of d g p).0 < length parents) × ((pair_of d g p).1 < length parents)
    both RootGreatest g p e = (child_below g p e, parent_below g p e)
    both RootLeast g p e = (parent_below g p e, child_below g p e)

  rootless : (p : ℕ) → IsParent parents tree.root p → ⊥
  rootless p e = none_parent p (sym tree.at_root ∙ e)

  one_length : (n k g : ℕ) → Climbs parents n g tree.root → Climbs parents k g tree.root → n ≡ k
  one_length zero zero g h j = refl
  one_length zero (suc k) g h j = absurd (rootless j.0 (subst (λ (x : ℕ). IsParent parents x j.0) h j.1))
  one_length (suc n) zero g h j = absurd (rootless h.0 (subst (λ (x : ℕ). IsParent parents x h.0) j h.1))
  one_length (suc n) (suc k) g h j = ap (λ (x : ℕ). suc x) (one_length n k h.0 h.2 (subst (λ (x : ℕ). Climbs parents k x tree.root) (one_parent parents g j.0 h.0 j.1 h.1) j.2))

  known : (g : ℕ) → (n : ℕ) × (g < length parents → Climbs parents n g tree.root)
  known g = elim (cases_lt g (length parents)) [
    | inl l ↦ ((tree.reached g l).0, λ _. (tree.reached g l).1)
    | inr k ↦ (0, λ l. absurd (omega arith))
  ]

  -- how many steps lead from a place to the root
  pub depth : ℕ → ℕ
  depth g = (known g).0

  pub deeper : (g p : ℕ) → IsParent parents g p → depth g ≡ suc (depth p)
  unfolding depth
  deeper g p e = one_length (known g).0 (suc (known p).0) g ((known g).1 (child_below g p e)) (p, e, (known p).1 (parent_below g p e))

  -- each place of the piece but the top has its parent there
  abbrev pub Hangs : (ℕ → Bool) → ℕ → Type 0
  Hangs piece top = (g : ℕ) → g < length parents → piece g ≡ true → (g ≡ top → ⊥) → (p : ℕ) × IsParent parents g p × (piece p ≡ true)

  -- a step of a walk to the top, or its end
  step_up : {X : Type 0} (piece : ℕ → Bool) (top : ℕ) → Hangs piece top → (g : ℕ) → g < length parents → piece g ≡ true → (g ≡ top → X) → ((p : ℕ) → IsParent parents g p → p < length parents → piece p ≡ true → X) → X
  step_up piece top hangs g l u stop go = elim (cases_eq g top) [
    | inl e ↦ stop e
    | inr away ↦ go (hangs g l u away).0 (hangs g l u away).1 (parent_below g (hangs g l u away).0 (hangs g l u away).1) (hangs g l u away).2
  ]

  -- no place of the piece is nearer to the root than the top
  pub top_highest : (piece : ℕ → Bool) (top : ℕ) → Hangs piece top → (n g : ℕ) → depth g ≤ n → g < length parents → piece g ≡ true → depth top ≤ depth g
  top_highest piece top hangs zero g b l u = step_up piece top hangs g l u (λ e. omega (arith, ap depth e)) (λ p e lp up. absurd (omega (arith, b, deeper g p e)))
  top_highest piece top hangs (suc n) g b l u = step_up piece top hangs g l u (λ e. omega (arith, ap depth e))
      (λ p e lp up. omega (arith, deeper g p e, top_highest piece top hangs n p (omega (arith, b, deeper g p e)) lp up))

  -- a set that has, with a place, its parent in the piece, has the top
  pub climbs_to_top : (piece a : ℕ → Bool) (top : ℕ) → Hangs piece top → ((g p : ℕ) → IsParent parents g p → piece g ≡ true → piece p ≡ true → a g ≡ true → a p ≡ true)
      → (n g : ℕ) → depth g ≤ n → g < length parents → piece g ≡ true → a g ≡ true → a top ≡ true
  climbs_to_top piece a top hangs closed zero g b l u h = step_up piece top hangs g l u (λ e. subst (λ (x : ℕ). a x ≡ true) e h) (λ p e lp up. absurd (omega (arith, b, deeper g p e)))
  climbs_to_top piece a top hangs closed (suc n) g b l u h = step_up piece top hangs g l u (λ e. subst (λ (x : ℕ). a x ≡ true) e h)
      (λ p e lp up. climbs_to_top piece a top hangs closed n p (omega (arith, b, deeper g p e)) lp up (closed g p e u up h))

  -- two pieces, of which the second hangs from the first, hang from the first one's top
  pub hangs_together : (piece base child : ℕ → Bool) (top leaf p : ℕ) → ((g : ℕ) → g < length parents → piece g ≡ (base g || child g)) → Hangs base top → Hangs child leaf → IsParent parents leaf p → base p ≡ true → Hangs piece top
  hangs_together piece base child top leaf p parts hb hc up ub g l u away = elim (member (base g) (child g) refl refl (sym (parts g l) ∙ u)) [
    | inl b ↦ ((hb g l b away).0, (hb g l b away).1, from_base (hb g l b away).0 (parent_below g (hb g l b away).0 (hb g l b away).1) (hb g l b away).2)
    | inr c ↦ elim (cases_eq g leaf) [
      | inl e ↦ (p, subst (λ (x : ℕ). IsParent parents x p) (sym e) up, from_base p (parent_below leaf p up) ub)
      | inr other ↦ ((hc g l c other).0, (hc g l c other).1, from_child (hc g l c other).0 (parent_below g (hc g l c other).0 (hc g l c other).1) (hc g l c other).2)
    ]
  ] where
    member : (x y : Bool) → base g ≡ x → child g ≡ y → (x || y) ≡ true → (base g ≡ true) ⊎ (child g ≡ true)
    member true y e f h = inl e
    member false true e f h = inr f
    member false false e f h = cc

    from_base : (q : ℕ) → q < length parents → base q ≡ true → piece q ≡ true
    from_base = base_in (length parents) piece base child parts

    from_child : (q : ℕ) → q < length parents → child q ≡ true → piece q ≡ true
    from_child = child_in (length parents) piece base child parts
