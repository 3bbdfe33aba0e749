-- entries that are outdated, blocks that settle, and slots in general
use Rattle.std.proofs.Common.{◌≡◌, ℕ, zero, suc, ◌<◌, refl, sym, ap, subst, ◌∙◌, arith, Bool, true, List, [], ◌∷◌, length, set, inl, inr}
use Rattle.std.proofs.lemmas.Bool.{cases_eq}
use Rattle.std.proofs.lemmas.List.{length-set}
use Rattle.std.proofs.lemmas.List.Elements.{All-head, All-tail, All-contains}
use Rattle.std.proofs.lemmas.Option.{slice_get_within}
use Rattle.std.specs.Prelude.{slice_get, slice_index, Option, Some, All, Contains}
use Rattle.ofit_num.specs.declared.row.Row.{Row}
use Rattle.ofit_num.specs.Groups.{RowLists}
use Rattle.ofit_num.specs.Meaning.{Meaning}
use Rattle.ofit_num.specs.Fraction.{Fraction, AtMost, SameValue}
use Rattle.ofit_num.specs.Law.{HasFallingSpans}
use Rattle.ofit_tree.specs.declared.direction.Direction.{Direction}
use Rattle.ofit_tree.specs.declared.direction.Direction.TheVariants.{RootGreatest}
use Rattle.ofit_tree.specs.declared.block.Block.{Block}
use Rattle.ofit_tree.specs.declared.entry.Entry.{Entry}
use Rattle.ofit_tree.specs.declared.slot.Slot.{Slot}
use Rattle.ofit_tree.specs.declared.slot.Slot.TheVariants.{Open, Settled, Joined}
use Rattle.ofit_tree.specs.Entry.{IsInOrder, rank_of}
use Rattle.ofit_tree.specs.Tree.{IsParent, IsRootedTree, tree_problem}
use Rattle.ofit_num.specs.Level.{IsLevel}
use Rattle.ofit_tree.specs.Forest.{numbered, IsForest, IsOutdated, IsNoneAbove, IsFirst}
use Rattle.ofit_tree.proofs.Ranks.{in_order_from_ranks}
use Rattle.ofit_tree.proofs.Pairs.{child_below, parent_below, one_parent}
use Rattle.ofit_tree.proofs.TreeBlocks.{tree_level, tree_den, in_order_same}
use Rattle.ofit_num.proofs.Levels.{is_label, has_label}
use Rattle.ofit_num.proofs.Members.{cons_cases}
use Rattle.ofit_num.proofs.Elements.{at_set, other_set}

module _ {P : Type 0} where
  pub same_open : (a b : Block P) → ◌≡◌ {A = Option (Slot P)} (Some (Open a)) (Some (Open b)) → a ≡ b
  same_open a b e = cc

  pub same_settled : (v w : Fraction) → ◌≡◌ {A = Option (Slot P)} (Some (Settled v)) (Some (Settled w)) → v ≡ w
  same_settled v w e = cc

  pub open_settled : (b : Block P) (v : Fraction) → ◌≡◌ {A = Option (Slot P)} (Some (Open b)) (Some (Settled v)) → ⊥
  open_settled b v e = cc

  pub open_joined : (b : Block P) → ◌≡◌ {A = Option (Slot P)} (Some (Open b)) (Some Joined) → ⊥
  open_joined b e = cc

  pub settled_joined : (v : Fraction) → ◌≡◌ {A = Option (Slot P)} (Some (Settled v)) (Some Joined) → ⊥
  settled_joined v e = cc

  slot_at : (xs : List (Slot P)) (k : ℕ) → k < length xs → (x : Slot P) × (slice_get xs k ≡ Some x)
  slot_at [] k l = absurd (omega arith)
  slot_at (x ∷ xs) zero l = (x, refl)
  slot_at (x ∷ xs) (suc k) l = slot_at xs k (omega arith)

  which : {A : Type 0} (o : Option (Slot P)) (x : Slot P) → o ≡ Some x → ((b : Block P) → o ≡ Some (Open b) → A) → ((v : Fraction) → o ≡ Some (Settled v) → A) → (o ≡ Some Joined → A) → A
  which o (Open b) e f g h = f b e
  which o (Settled v) e f g h = g v e
  which o Joined e f g h = h e

  -- a slot that stands in the list is one of three
  pub by_slot : {A : Type 0} (slots : List (Slot P)) (k : ℕ) → k < length slots → ((b : Block P) → slice_get slots k ≡ Some (Open b) → A) → ((v : Fraction) → slice_get slots k ≡ Some (Settled v) → A) → (slice_get slots k ≡ Some Joined → A) → A
  by_slot slots k l f g h = let s : (x : Slot P) × (slice_get slots k ≡ Some x) = slot_at slots k l in which (slice_get slots k) s.0 s.1 f g h

-- a forest with other entries, among which is one for each block that waits
pub with_queue : {P : Type 0} (d : Direction) (IsPoolOf : P → List Row → Type 0) (m : Meaning) (strict : Bool) (groups : RowLists) (parents : List (Option ℕ)) (labels : List ℕ) (slots : List (Slot P)) (queue queue' : List Entry)
    → IsForest d IsPoolOf m strict groups parents labels slots queue
    → ((k : ℕ) (b : Block P) → slice_get slots k ≡ Some (Open b) → Contains queue' (record { rank = rank_of d b.value; block = k }))
    → All (λ e. (e.block < length groups) × (0 < e.rank.den)) queue' → IsForest d IsPoolOf m strict groups parents labels slots queue'
with_queue d IsPoolOf m strict groups parents labels slots queue queue' h entered entries = record {
  limit = h.limit;
  limit_den = h.limit_den;
  labels_count = h.labels_count;
  slots_count = h.slots_count;
  numbers = h.numbers;
  live = h.live;
  waiting = h.waiting;
  entered = entered;
  entries = entries;
  level = h.level;
  above = h.above;
  rises = h.rises;
}

module _ {P : Type 0} (d : Direction) (IsPoolOf : P → List Row → Type 0) (m : Meaning) (strict : Bool) (groups : RowLists) (parents : List (Option ℕ)) (tree : IsRootedTree parents) (count : length parents ≡ length groups)
    (law : HasFallingSpans m (tree_problem d groups parents)) (labels : List ℕ) (slots : List (Slot P)) (entry : Entry) (queue : List Entry) (h : IsForest d IsPoolOf m strict groups parents labels slots (entry ∷ queue)) where
  -- an entry that is not current can go
  pub outdated_goes : IsOutdated d slots entry → IsForest d IsPoolOf m strict groups parents labels slots queue
  outdated_goes out = with_queue d IsPoolOf m strict groups parents labels slots (entry ∷ queue) queue h
      (λ k b at. elim (cons_cases queue entry (record { rank = rank_of d b.value; block = k }) (h.entered k b at)) [
        | inl e ↦ absurd (out b (ap (slice_get slots) (blocks e) ∙ at) (sym (ranks e)))
        | inr c ↦ c
      ])
      (All-tail (λ e. (e.block < length groups) × (0 < e.rank.den)) entry queue h.entries) where
        blocks : {k : ℕ} {r : Fraction} → entry ≡ record { rank = r; block = k } → entry.block ≡ k
        blocks e = ap (λ (x : Entry). x.block) e

        ranks : {k : ℕ} {r : Fraction} → entry ≡ record { rank = r; block = k } → entry.rank ≡ r
        ranks e = ap (λ (x : Entry). x.rank) e

  entry_den : 0 < entry.rank.den
  entry_den = (All-head (λ e. (e.block < length groups) × (0 < e.rank.den)) entry queue h.entries).1

  pub entry_below : entry.block < length groups
  entry_below = (All-head (λ e. (e.block < length groups) × (0 < e.rank.den)) entry queue h.entries).0

  -- no block that waits has a value past that of a current entry that is first
  module _ (current : Block P) (at : slice_get slots entry.block ≡ Some (Open current)) (same : SameValue (rank_of d current.value) entry.rank) (first : IsFirst entry queue) where
    pub open_den : (j : ℕ) (b : Block P) → slice_get slots j ≡ Some (Open b) → 0 < b.value.den
    open_den j b e = tree_den d m (tree_problem d groups parents) strict (numbered labels j) b.top b.value h.limit (h.waiting j b e).block

    pub first_ranked : (j : ℕ) (b : Block P) → slice_get slots j ≡ Some (Open b) → IsInOrder d b.value current.value
    first_ranked j b e = in_order_from_ranks d b.value current.value entry.rank (open_den j b e) (open_den entry.block current at) entry_den
        (elim (cons_cases queue entry (record { rank = rank_of d b.value; block = j }) (h.entered j b e)) [
          | inl same_entry ↦ subst (λ (r : Fraction). AtMost r entry.rank) (ap (λ (x : Entry). x.rank) same_entry) (omega_refl entry.rank)
          | inr c ↦ All-contains (λ x. AtMost x.rank entry.rank) queue (record { rank = rank_of d b.value; block = j }) first c
        ]) same where
          omega_refl : (r : Fraction) → AtMost r r
          omega_refl r = in_order_same RootGreatest r

    k : ℕ
    k = entry.block

    slots' : List (Slot P)
    slots' = set slots entry.block (Settled current.value)

    inside : entry.block < length slots
    inside = slice_get_within slots entry.block (Open current) at

    here : slice_get (set slots entry.block (Settled current.value)) entry.block ≡ Some (Settled current.value)
    here = at_set slots entry.block (Settled current.value) inside

    away : (i : ℕ) → (i ≡ entry.block → ⊥) → slice_get (set slots entry.block (Settled current.value)) i ≡ slice_get slots i
    away i out = other_set slots entry.block i (Settled current.value) out

    -- where the parent's block does not wait, the block settles
    risen : IsNoneAbove parents labels slots current.top → (g p : ℕ) → IsParent parents g p → slice_index labels g ≡ entry.block
        → (w : Fraction) × (slice_get (set slots entry.block (Settled current.value)) (slice_index labels p) ≡ Some (Settled w)) × IsInOrder d current.value w
    risen none g p up number = elim (cases_eq (slice_index labels p) entry.block) [
      | inl e ↦ (current.value, ap (slice_get (set slots entry.block (Settled current.value))) e ∙ here, in_order_same d current.value)
      | inr out ↦ by_slot slots (slice_index labels p) below
          (λ b e. absurd (elim (cases_eq g current.top) [
            | inl top ↦ none p (subst (λ (x : ℕ). IsParent parents x p) top up) b e
            | inr inner ↦ out (inner_parent inner)
          ]))
          (λ w e. (w, away (slice_index labels p) out ∙ e, h.above (slice_index labels p) w entry.block current e at))
          (λ e. absurd (h.live p lp e))
    ] where
      lp : p < length groups
      lp = subst (λ (n : ℕ). p < n) count (parent_below parents tree g p up)

      lg : g < length groups
      lg = subst (λ (n : ℕ). g < n) count (child_below parents tree g p up)

      below : slice_index labels p < length slots
      below = subst (λ (n : ℕ). slice_index labels p < n) (sym h.slots_count) (h.numbers p 0 (subst (λ (n : ℕ). p < n) (sym h.labels_count) lp))

      inner_parent : (g ≡ current.top → ⊥) → slice_index labels p ≡ entry.block
      inner_parent inner =
          let up' : (q : ℕ) × IsParent parents g q × (numbered labels entry.block q ≡ true) = (h.waiting entry.block current at).hangs g lg (has_label (slice_index labels) entry.block g number) inner in
          ap (slice_index labels) (one_parent parents g p up'.0 up up'.1) ∙ is_label (slice_index labels) entry.block up'.0 up'.2

    pub block_settles : IsNoneAbove parents labels slots current.top → IsForest d IsPoolOf m strict groups parents labels (set slots entry.block (Settled current.value)) queue
    block_settles none = record {
      limit = h.limit;
      limit_den = h.limit_den;
      labels_count = h.labels_count;
      slots_count = length-set slots entry.block (Settled current.value) ∙ h.slots_count;
      numbers = h.numbers;
      live = λ g l e. elim (cases_eq (slice_index labels g) entry.block) [
        | inl eq ↦ settled_joined current.value (sym here ∙ ap (slice_get (set slots entry.block (Settled current.value))) (sym eq) ∙ e)
        | inr out ↦ h.live g l (sym (away (slice_index labels g) out) ∙ e)
      ];
      waiting = λ i b e. elim (cases_eq i entry.block) [
        | inl eq ↦ absurd (open_settled b current.value (sym e ∙ ap (slice_get (set slots entry.block (Settled current.value))) eq ∙ here))
        | inr out ↦ h.waiting i b (sym (away i out) ∙ e)
      ];
      entered = λ i b e. elim (cases_eq i entry.block) [
        | inl eq ↦ absurd (open_settled b current.value (sym e ∙ ap (slice_get (set slots entry.block (Settled current.value))) eq ∙ here))
        | inr out ↦ elim (cons_cases queue entry (record { rank = rank_of d b.value; block = i }) (h.entered i b (sym (away i out) ∙ e))) [
          | inl eq ↦ absurd (out (sym (ap (λ (x : Entry). x.block) eq)))
          | inr c ↦ c
        ]
      ];
      entries = All-tail (λ e. (e.block < length groups) × (0 < e.rank.den)) entry queue h.entries;
      level = λ i v e. elim (cases_eq i entry.block) [
        | inl eq ↦ subst (λ (n : ℕ). IsLevel m (tree_problem d groups parents) strict (numbered labels n) v) (sym eq)
            (subst (λ (w : Fraction). IsLevel m (tree_problem d groups parents) strict (numbered labels entry.block) w) (same_settled current.value v (sym here ∙ ap (slice_get (set slots entry.block (Settled current.value))) (sym eq) ∙ e))
            (tree_level m (tree_problem d groups parents) law strict d (numbered labels entry.block) current.top current.value h.limit (h.waiting entry.block current at).block))
        | inr out ↦ h.level i v (sym (away i out) ∙ e)
      ];
      above = λ i v j b e f. elim (cases_eq j entry.block) [
        | inl eq ↦ absurd (open_settled b current.value (sym f ∙ ap (slice_get (set slots entry.block (Settled current.value))) eq ∙ here))
        | inr off ↦ elim (cases_eq i entry.block) [
          | inl eq ↦ subst (λ (w : Fraction). IsInOrder d b.value w) (same_settled current.value v (sym here ∙ ap (slice_get (set slots entry.block (Settled current.value))) (sym eq) ∙ e)) (first_ranked j b (sym (away j off) ∙ f))
          | inr out ↦ h.above i v j b (sym (away i out) ∙ e) (sym (away j off) ∙ f)
        ]
      ];
      rises = λ i v g p e up number. elim (cases_eq i entry.block) [
        | inl eq ↦ subst (λ (u : Fraction). (w : Fraction) × (slice_get (set slots entry.block (Settled current.value)) (slice_index labels p) ≡ Some (Settled w)) × IsInOrder d u w)
            (same_settled current.value v (sym here ∙ ap (slice_get (set slots entry.block (Settled current.value))) (sym eq) ∙ e)) (risen none g p up (number ∙ eq))
        | inr out ↦
            let old : (w : Fraction) × (slice_get slots (slice_index labels p) ≡ Some (Settled w)) × IsInOrder d v w = h.rises i v g p (sym (away i out) ∙ e) up number in
            (old.0, away (slice_index labels p) (λ same. open_settled current old.0 (sym at ∙ ap (slice_get slots) (sym same) ∙ old.1)) ∙ old.1, old.2)
      ];
    }
