-- a step of the fit: what it does to the lists of numbers, blocks and entries
use Rattle.std.proofs.Common.{◌≡◌, ℕ, zero, suc, ◌+◌, ◌<◌, ◌≤◌, refl, sym, ap, subst, ◌∙◌, arith, cond, Bool, true, List, [], ◌∷◌, ◌++◌, length, set, inl, inr}
use Rattle.std.proofs.lemmas.List.{length-set}
use Rattle.std.proofs.lemmas.List.Sums.{sum_by-cons}
use Rattle.std.proofs.lemmas.List.Elements.{All-cons, All-tail, All-contains, All-weaker}
use Rattle.std.proofs.lemmas.List.Sorted.{All-permutation, Contains-permutation}
use Rattle.std.proofs.lemmas.Option.{slice_get_within}
use Rattle.std.specs.List.Sorted.{IsPermutation}
use Rattle.std.specs.Prelude.{All, Contains, slice_get, slice_index, Option, Some}
use Rattle.std.specs.List.{count_by}
use Rattle.ofit_num.specs.declared.row.Row.{Row}
use Rattle.ofit_num.specs.Groups.{RowLists}
use Rattle.ofit_num.specs.Meaning.{Meaning}
use Rattle.ofit_num.specs.Fraction.{Fraction, SameValue}
use Rattle.ofit_loss.specs.Rows.{AreFittable}
use Rattle.ofit_loss.specs.Laws.{HasLossLaws}
use Rattle.ofit_loss.specs.Least.{IsLeastMinimiser}
use Rattle.ofit_tree.specs.declared.direction.Direction.{Direction}
use Rattle.ofit_tree.specs.declared.block.Block.{Block}
use Rattle.ofit_tree.specs.declared.entry.Entry.{Entry}
use Rattle.ofit_tree.specs.declared.slot.Slot.{Slot}
use Rattle.ofit_tree.specs.declared.slot.Slot.TheVariants.{Open, Settled, Joined}
use Rattle.ofit_tree.specs.Entry.{rank_of}
use Rattle.ofit_num.specs.Law.{HasFallingSpans}
use Rattle.ofit_num.specs.Unbounded.{no_bounds}
use Rattle.ofit_loss.proofs.ProblemLaws.{groups_fittable, problem_falling}
use Rattle.ofit_tree.specs.Tree.{IsParent, tree_pairs, tree_problem}
use Rattle.ofit_loss.specs.Pool.{CanMerge}
use Rattle.ofit_tree.specs.Merge.{AreTogether, IsRenumbered}
use Rattle.ofit_tree.specs.Forest.{numbered, IsForest, IsCurrent, IsOutdated, IsNoneAbove, IsFirst, IsFittableTree, CanAbsorb, is_open}
use Rattle.ofit_tree.proofs.Ranks.{rank_den}
use Rattle.ofit_tree.proofs.TreeBlocks.{tree_top}
use Rattle.ofit_tree.proofs.Closing.{same_open, outdated_goes, entry_below, block_settles}
use Rattle.ofit_tree.proofs.Absorbing.{two_blocks, hc, hu, rows_fittable, rows_some, block_absorbs}
use Rattle.ofit_num.proofs.Levels.{is_label, has_label}
use Rattle.ofit_num.proofs.Elements.{at_set, other_set}

-- how many pass a test, where one element is changed
pub count_set : {X : Type 0} (p : X → Bool) (xs : List X) (k : ℕ) (x y : X) → slice_get xs k ≡ Some x → count_by p (set xs k y) + cond (p x) 1 0 ≡ count_by p xs + cond (p y) 1 0
count_set p [] k x y e = cc
count_set {X} p (z ∷ xs) zero x y e =
    omega (arith, sum_by-cons (λ w. cond (p w) 1 0) y xs, sum_by-cons (λ w. cond (p w) 1 0) z xs, ap (λ (w : X). cond {A = ℕ} (p w) 1 0) (same_some z x e)) where
      same_some : (a b : X) → Some a ≡ Some b → a ≡ b
      same_some a b e = cc
count_set p (z ∷ xs) (suc k) x y e = omega (arith, sum_by-cons (λ w. cond (p w) 1 0) z (set xs k y), sum_by-cons (λ w. cond (p w) 1 0) z xs, count_set p xs k x y e)

module _ {P : Type 0} (d : Direction) (IsPoolOf : P → List Row → Type 0) (m : Meaning) (strict : Bool) (laws : HasLossLaws m strict) (groups : RowLists) (parents : List (Option ℕ)) (tree : IsFittableTree groups parents)
    (labels : List ℕ) (slots : List (Slot P)) (entry : Entry) (queue : List Entry) (h : IsForest d IsPoolOf m strict groups parents labels slots (entry ∷ queue)) (first : IsFirst entry queue)
    (above : ℕ) (can : CanAbsorb d parents labels slots entry above) where
  parent : ℕ
  parent = can.above.0

  label : slice_index labels can.above.0 ≡ above
  label = can.above.2

  -- the block that absorbs, and the one that it absorbs
  module _ (upper : Block P) (upper_at : slice_get slots above ≡ Some (Open upper)) (child : Block P) (child_at : slice_get slots entry.block ≡ Some (Open child)) where
    same_child : can.current.block ≡ child
    same_child = same_open can.current.block child (sym can.current.at ∙ child_at)

    rank : SameValue (rank_of d child.value) entry.rank
    rank = subst (λ (v : Fraction). SameValue (rank_of d v) entry.rank) (sym can.current.is_value ∙ ap (λ (b : Block P). b.value) same_child) can.current.rank

    up : IsParent parents child.top can.above.0
    up = subst (λ (n : ℕ). IsParent parents n can.above.0) (sym can.current.is_top ∙ ap (λ (b : Block P). b.top) same_child) can.above.1

    apart : above ≡ entry.block → ⊥
    apart = two_blocks d IsPoolOf m strict laws groups tree.fittable parents tree.rooted tree.one_each labels slots entry queue h child upper child_at rank first can.above.0 above up label upper_at

    pub can_merge : CanMerge IsPoolOf upper.pool child.pool
    can_merge = record {
      front = (hu d IsPoolOf m strict laws groups tree.fittable parents tree.rooted tree.one_each labels slots entry queue h child upper child_at rank first can.above.0 above up label upper_at).pool.rows;
      back = (hc d IsPoolOf m strict laws groups tree.fittable parents tree.rooted tree.one_each labels slots entry queue h child upper child_at rank first can.above.0 above up label upper_at).pool.rows;
      left_pooled = (hu d IsPoolOf m strict laws groups tree.fittable parents tree.rooted tree.one_each labels slots entry queue h child upper child_at rank first can.above.0 above up label upper_at).pool.pooled;
      right_pooled = (hc d IsPoolOf m strict laws groups tree.fittable parents tree.rooted tree.one_each labels slots entry queue h child upper child_at rank first can.above.0 above up label upper_at).pool.pooled;
      fittable = rows_fittable d IsPoolOf m strict laws groups tree.fittable parents tree.rooted tree.one_each labels slots entry queue h child upper child_at rank first can.above.0 above up label upper_at;
      some = rows_some d IsPoolOf m strict laws groups tree.fittable parents tree.rooted tree.one_each labels slots entry queue h child upper child_at rank first can.above.0 above up label upper_at;
    }

    members_inside : (k : ℕ) (b : Block P) → slice_get slots k ≡ Some (Open b) → All (λ g. g < length labels) b.members.items
    members_inside k b e = All-weaker (λ g. (g < length groups) × (numbered labels k g ≡ true)) (λ g. g < length labels) (λ g u. subst (λ (n : ℕ). g < n) (sym h.labels_count) u.0) b.members.items (h.waiting k b e).members

    pub upper_inside : All (λ g. g < length labels) upper.members.items
    upper_inside = members_inside above upper upper_at

    pub child_inside : All (λ g. g < length labels) child.members.items
    child_inside = members_inside entry.block child child_at

    below_slots : (k : ℕ) (x : Slot P) → slice_get slots k ≡ Some x → k < length slots
    below_slots k x e = slice_get_within slots k x e

    -- the number of both blocks, and the one that goes
    module _ (labels' : List ℕ) (number : ℕ) (renumbered : IsRenumbered labels labels' upper.members.items child.members.items above entry.block number) where
      pub number_below : number < length slots
      number_below = elim renumbered [
        | inl r ↦ subst (λ (n : ℕ). n < length slots) (sym r.0) (below_slots above (Open upper) upper_at)
        | inr r ↦ subst (λ (n : ℕ). n < length slots) (sym r.0) (below_slots entry.block (Open child) child_at)
      ]

      module _ (t : Block P) (pool : (xs ys : List Row) → IsPoolOf upper.pool xs → IsPoolOf child.pool ys → IsPoolOf t.pool (xs ++ ys))
          (value : (xs ys : List Row) → IsPoolOf upper.pool xs → IsPoolOf child.pool ys → AreFittable (xs ++ ys) → 0 < length (xs ++ ys) → IsLeastMinimiser m strict (xs ++ ys) t.value)
          (top : t.top ≡ upper.top) (members : AreTogether upper.members.items child.members.items t.members.items) (rank_is : Fraction) (ranked : rank_is ≡ rank_of d t.value)
          (queue' : List Entry) (moved : IsPermutation (record { rank = rank_is; block = number } ∷ queue) queue') (slots1 slots2 slots' : List (Slot P))
          (s1 : slots1 ≡ set slots above Joined) (s2 : slots2 ≡ set slots1 entry.block Joined) (s' : slots' ≡ set slots2 number (Open t)) where
        minimiser : IsLeastMinimiser m strict (can_merge.front ++ can_merge.back) t.value
        minimiser = value can_merge.front can_merge.back can_merge.left_pooled can_merge.right_pooled can_merge.fittable can_merge.some

        new_entry : Entry
        new_entry = record { rank = rank_is; block = number }

        entry_is : ◌≡◌ {A = Entry} (record { rank = rank_is; block = number }) (record { rank = rank_of d t.value; block = number })
        entry_is = ap (λ (r : Fraction). entry_of r) ranked where
          entry_of : Fraction → Entry
          entry_of r = record { rank = r; block = number }

        slots_are : slots' ≡ set (set (set slots above Joined) entry.block Joined) number (Open t)
        slots_are = s' ∙ ap (λ (xs : List (Slot P)). set xs number (Open t)) (s2 ∙ ap (λ (xs : List (Slot P)). set xs entry.block Joined) s1)

        length_is : length slots' ≡ length slots
        length_is = ap (λ (xs : List (Slot P)). length xs) slots_are ∙ length-set (set (set slots above Joined) entry.block Joined) number (Open t) ∙ length-set (set slots above Joined) entry.block Joined ∙ length-set slots above Joined

        inside1 : (k : ℕ) → k < length slots → k < length (set slots above Joined)
        inside1 k l = subst (λ (n : ℕ). k < n) (sym (length-set slots above Joined)) l

        inside2 : (k : ℕ) → k < length slots → k < length (set (set slots above Joined) entry.block Joined)
        inside2 k l = subst (λ (n : ℕ). k < n) (sym (length-set (set slots above Joined) entry.block Joined)) (inside1 k l)

        new : slice_get slots' number ≡ Some (Open t)
        new = ap (λ (xs : List (Slot P)). slice_get xs number) slots_are ∙ at_set (set (set slots above Joined) entry.block Joined) number (Open t) (inside2 number number_below)

        others : (i : ℕ) → (i ≡ number → ⊥) → (i ≡ above → ⊥) → (i ≡ entry.block → ⊥) → slice_get slots' i ≡ slice_get slots i
        others i n x y = ap (λ (xs : List (Slot P)). slice_get xs i) slots_are ∙ other_set (set (set slots above Joined) entry.block Joined) number i (Open t) n ∙ other_set (set slots above Joined) entry.block i Joined y ∙ other_set slots above i Joined x

        gone_above : number ≡ entry.block → slice_get slots' above ≡ Some Joined
        gone_above e = ap (λ (xs : List (Slot P)). slice_get xs above) slots_are ∙ other_set (set (set slots above Joined) entry.block Joined) number above (Open t) (λ f. apart (f ∙ e))
            ∙ other_set (set slots above Joined) entry.block above Joined apart ∙ at_set slots above Joined (below_slots above (Open upper) upper_at)

        gone_below : number ≡ above → slice_get slots' entry.block ≡ Some Joined
        gone_below e = ap (λ (xs : List (Slot P)). slice_get xs entry.block) slots_are ∙ other_set (set (set slots above Joined) entry.block Joined) number entry.block (Open t) (λ f. apart (sym (f ∙ e)))
            ∙ at_set (set slots above Joined) entry.block Joined (inside1 entry.block (below_slots entry.block (Open child) child_at))

        entries : All (λ e. (e.block < length groups) × (0 < e.rank.den)) queue → 0 < t.value.den → All (λ e. (e.block < length groups) × (0 < e.rank.den)) queue'
        entries old lt = All-permutation (λ e. (e.block < length groups) × (0 < e.rank.den)) (record { rank = rank_is; block = number } ∷ queue) queue' moved
            (All-cons (λ e. (e.block < length groups) × (0 < e.rank.den)) (record { rank = rank_is; block = number }) queue
            (subst (λ (n : ℕ). number < n) h.slots_count number_below, subst (λ (r : Fraction). 0 < r.den) (sym ranked) (rank_den d t.value lt)) old)

        later : (e : Entry) → Contains queue e → Contains queue' e
        later e k = Contains-permutation (record { rank = rank_is; block = number } ∷ queue) queue' e moved (suc k.0, omega (arith, k.1), k.2)

        entered : Contains queue' (record { rank = rank_of d t.value; block = number })
        entered = subst (λ (e : Entry). Contains queue' e) entry_is (Contains-permutation (record { rank = rank_is; block = number } ∷ queue) queue' (record { rank = rank_is; block = number }) moved (0, omega arith, refl))

        -- the groups of a block that waits are its members
        given : (moved_number : ℕ) (b : Block P) → slice_get slots moved_number ≡ Some (Open b) → (g : ℕ) → g < length groups → slice_index labels g ≡ moved_number → Contains b.members.items g
        given k b e g l number_is = (h.waiting k b e).all g l (has_label (slice_index labels) k g number_is)

        kept : (k : ℕ) (b : Block P) → slice_get slots k ≡ Some (Open b) → (g : ℕ) → (g < length groups → slice_index labels g ≡ k → ⊥) → Contains b.members.items g → ⊥
        kept k b e g out c =
            let in_ : (g < length groups) × (numbered labels k g ≡ true) = All-contains (λ g. (g < length groups) × (numbered labels k g ≡ true)) b.members.items g (h.waiting k b e).members c in
            out in_.0 (is_label (slice_index labels) k g in_.1)

        pub step_absorbs : IsForest d IsPoolOf m strict groups parents labels' slots' queue'
        unfolding can_merge
        step_absorbs = elim renumbered [
          | inl r ↦ block_absorbs d IsPoolOf m strict laws groups tree.fittable parents tree.rooted tree.one_each labels slots entry queue h child upper child_at rank first can.above.0 above up label upper_at t top
              (pool can_merge.front can_merge.back can_merge.left_pooled can_merge.right_pooled) minimiser members number entry.block (inl (r.0, refl)) labels' r.1.count
              (λ g l e. r.1.given g (given entry.block child child_at g l e) ∙ sym r.0) (λ g out. r.1.kept g (kept entry.block child child_at g out)) slots' length_is new (gone_below r.0) (λ i x y. others i (λ e. x (e ∙ r.0)) x y)
              queue' entered later (entries (All-tail (λ e. (e.block < length groups) × (0 < e.rank.den)) entry queue h.entries) minimiser.den)
          | inr r ↦ block_absorbs d IsPoolOf m strict laws groups tree.fittable parents tree.rooted tree.one_each labels slots entry queue h child upper child_at rank first can.above.0 above up label upper_at t top
              (pool can_merge.front can_merge.back can_merge.left_pooled can_merge.right_pooled) minimiser members number above (inr (r.0, refl)) labels' r.1.count
              (λ g l e. r.1.given g (given above upper upper_at g l e) ∙ sym r.0) (λ g out. r.1.kept g (kept above upper upper_at g out)) slots' length_is new (gone_above r.0) (λ i x y. others i (λ e. y (e ∙ r.0)) x y)
              queue' entered later (entries (All-tail (λ e. (e.block < length groups) × (0 < e.rank.den)) entry queue h.entries) minimiser.den)
        ]

        joined_at_number : slice_get slots2 number ≡ Some Joined
        joined_at_number = ap (λ (xs : List (Slot P)). slice_get xs number) (s2 ∙ ap (λ (xs : List (Slot P)). set xs entry.block Joined) s1) ∙ elim renumbered [
          | inl r ↦ ap (slice_get (set (set slots above Joined) entry.block Joined)) r.0 ∙ other_set (set slots above Joined) entry.block above Joined apart ∙ at_set slots above Joined (below_slots above (Open upper) upper_at)
          | inr r ↦ ap (slice_get (set (set slots above Joined) entry.block Joined)) r.0 ∙ at_set (set slots above Joined) entry.block Joined (inside1 entry.block (below_slots entry.block (Open child) child_at))
        ]

        -- one block fewer waits
        pub step_count : count_by is_open slots' + 1 ≡ count_by is_open slots
        step_count = omega (
          arith,
          ap (λ (xs : List (Slot P)). count_by is_open xs) s',
          count_set is_open slots2 number Joined (Open t) joined_at_number,
          ap (λ (xs : List (Slot P)). count_by is_open xs) s2,
          count_set is_open slots1 entry.block (Open child) Joined (ap (λ (xs : List (Slot P)). slice_get xs entry.block) s1 ∙ other_set slots above entry.block Joined (λ e. apart (sym e)) ∙ child_at),
          ap (λ (xs : List (Slot P)). count_by is_open xs) s1,
          count_set is_open slots above (Open upper) Joined upper_at,
        )

    pub child_still : slice_get (set slots above Joined) entry.block ≡ Some (Open child)
    child_still = other_set slots above entry.block Joined (λ e. apart (sym e)) ∙ child_at

  -- before any block is taken out
  pub both_apart : above ≡ entry.block → ⊥
  both_apart = apart can.above.3.0 can.above.3.1 can.current.block can.current.at

module _ {P : Type 0} (d : Direction) (IsPoolOf : P → List Row → Type 0) (m : Meaning) (strict : Bool) (laws : HasLossLaws m strict) (groups : RowLists) (parents : List (Option ℕ)) (tree : IsFittableTree groups parents)
    (labels : List ℕ) (slots : List (Slot P)) (entry : Entry) (queue : List Entry) (h : IsForest d IsPoolOf m strict groups parents labels slots (entry ∷ queue)) where
  falling : HasFallingSpans m (tree_problem d groups parents)
  falling = problem_falling m strict laws (tree_problem d groups parents) (groups_fittable groups (tree_pairs d parents) no_bounds tree.fittable)

  -- an outdated entry is passed over
  pub step_passes : IsOutdated d slots entry → IsForest d IsPoolOf m strict groups parents labels slots queue
  step_passes out = outdated_goes d IsPoolOf m strict groups parents tree.rooted tree.one_each falling labels slots entry queue h out

  pub entry_inside : entry.block < length slots
  entry_inside = subst (λ (n : ℕ). entry.block < n) (sym h.slots_count) (entry_below d IsPoolOf m strict groups parents tree.rooted tree.one_each falling labels slots entry queue h)

  module _ (top : ℕ) (value : Fraction) (current : IsCurrent d slots entry top value) where
    pub top_inside : top < length parents
    top_inside = subst (λ (n : ℕ). n < length parents) current.is_top (subst (λ (n : ℕ). current.block.top < n) (sym tree.one_each)
        (tree_top d m (tree_problem d groups parents) strict (numbered labels entry.block) current.block.top current.block.value h.limit (h.waiting entry.block current.block current.at).block).0)

    -- a block whose parent's block does not wait is settled
    pub step_settles : IsFirst entry queue → IsNoneAbove parents labels slots top → (slots' : List (Slot P)) → slots' ≡ set slots entry.block (Settled value) → IsForest d IsPoolOf m strict groups parents labels slots' queue
    step_settles first none slots' e = subst (λ (xs : List (Slot P)). IsForest d IsPoolOf m strict groups parents labels xs queue) (sym (e ∙ ap (λ (v : Fraction). set slots entry.block (Settled v)) (sym current.is_value)))
        (block_settles d IsPoolOf m strict groups parents tree.rooted tree.one_each falling labels slots entry queue h current.block current.at
        (subst (λ (v : Fraction). SameValue (rank_of d v) entry.rank) (sym current.is_value) current.rank) first (subst (λ (n : ℕ). IsNoneAbove parents labels slots n) (sym current.is_top) none))

  -- so it waits no longer
  pub settles_count : (top : ℕ) (value : Fraction) → IsCurrent d slots entry top value → (slots' : List (Slot P)) (v : Fraction) → slots' ≡ set slots entry.block (Settled v) → count_by is_open slots' ≤ count_by is_open slots
  settles_count top value current slots' v e = omega (arith, ap (λ (xs : List (Slot P)). count_by is_open xs) e, count_set is_open slots entry.block (Open current.block) (Settled v) current.at)
