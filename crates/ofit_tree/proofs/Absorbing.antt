-- a block that waits absorbs the first one of those that wait, which is its child
use Rattle.std.proofs.Common.{◌≡◌, ℕ, ◌<◌, refl, sym, ap, subst, ◌∙◌, arith, Bool, true, false, ◌||◌, List, ◌∷◌, ◌++◌, length, ◌⊎◌, inl, inr}
use Rattle.std.proofs.lemmas.Bool.{cases_eq, cases_lt, or_cases, or_left, or_right, false_from_ne_true}
use Rattle.std.proofs.lemmas.List.Elements.{All-contains, All-append, All-weaker, All-get_or, All-from_get_or, Contains-append_left, Contains-append_right}
use Rattle.std.specs.Prelude.{All, Contains, slice_get, slice_index, Option, Some}
use Rattle.ofit_num.specs.declared.row.Row.{Row}
use Rattle.ofit_num.specs.Groups.{RowLists}
use Rattle.ofit_num.specs.Meaning.{Meaning}
use Rattle.ofit_num.specs.Fraction.{Fraction, SameValue}
use Rattle.ofit_num.specs.Law.{HasFallingSpans}
use Rattle.ofit_num.specs.RowTotals.{all_rows}
use Rattle.ofit_num.specs.Unbounded.{no_bounds}
use Rattle.ofit_loss.specs.Rows.{AreFittable}
use Rattle.ofit_loss.specs.Laws.{HasLossLaws}
use Rattle.ofit_loss.specs.Least.{IsLeastMinimiser}
use Rattle.ofit_loss.proofs.ProblemLaws.{groups_fittable, problem_falling}
use Rattle.ofit_tree.specs.declared.direction.Direction.{Direction}
use Rattle.ofit_tree.specs.declared.block.Block.{Block}
use Rattle.ofit_tree.specs.declared.entry.Entry.{Entry}
use Rattle.ofit_tree.specs.declared.slot.Slot.{Slot}
use Rattle.ofit_tree.specs.declared.slot.Slot.TheVariants.{Open, Settled, Joined}
use Rattle.ofit_tree.specs.Entry.{IsInOrder, rank_of}
use Rattle.ofit_tree.specs.Tree.{IsParent, IsRootedTree, tree_pairs, tree_problem}
use Rattle.ofit_num.specs.Level.{IsLevel}
use Rattle.ofit_tree.specs.Level.{IsTreeBlock}
use Rattle.ofit_tree.specs.Forest.{numbered, IsPoolOfPiece, IsOpenBlock, IsForest, IsFirst}
use Rattle.ofit_tree.proofs.Pairs.{child_below, parent_below, depth, deeper, Hangs, top_highest, hangs_together}
use Rattle.ofit_tree.proofs.Pools.{pool_value, pool_costs, both_fittable, both_some, both_pools}
use Rattle.ofit_tree.proofs.TreeBlocks.{tree_limit, tree_den, tree_within, tree_absorbed, in_order_trans}
use Rattle.ofit_tree.proofs.Closing.{same_open, open_settled, open_joined, settled_joined, first_ranked}
use Rattle.ofit_num.proofs.Levels.{is_label, has_label}
use Rattle.ofit_num.proofs.Division.{same_test}
use Rattle.ofit_num.proofs.Members.{cons_cases}

-- the block with its groups under another name, and a limit nearer to its value
moved_block : {P : Type 0} (d : Direction) (IsPoolOf : P → List Row → Type 0) (m : Meaning) (strict : Bool) (groups : RowLists) (parents : List (Option ℕ)) (law : HasFallingSpans m (tree_problem d groups parents)) (piece piece' : ℕ → Bool) (limit c : Fraction) (b : Block P)
    → IsOpenBlock d IsPoolOf m strict groups parents piece limit b → piece ≡ piece' → 0 < c.den → IsInOrder d b.value c → IsInOrder d c limit → IsOpenBlock d IsPoolOf m strict groups parents piece' c b
moved_block d IsPoolOf m strict groups parents law piece piece' limit c b h same lc within near = subst (λ (q : ℕ → Bool). IsOpenBlock d IsPoolOf m strict groups parents q c b) same (record {
  block = tree_limit m (tree_problem d groups parents) law strict d piece b.top b.value limit c h.block lc within near;
  pool = h.pool;
  hangs = h.hangs;
  members = h.members;
  all = h.all;
})

module _ {P : Type 0} (d : Direction) (IsPoolOf : P → List Row → Type 0) (m : Meaning) (strict : Bool) (laws : HasLossLaws m strict) (groups : RowLists) (fit : AreFittable (all_rows groups)) (parents : List (Option ℕ)) (tree : IsRootedTree parents) (count : length parents ≡ length groups)
    (labels : List ℕ) (slots : List (Slot P)) (entry : Entry) (queue : List Entry) (h : IsForest d IsPoolOf m strict groups parents labels slots (entry ∷ queue))
    (child upper : Block P) (at : slice_get slots entry.block ≡ Some (Open child)) (same : SameValue (rank_of d child.value) entry.rank) (first : IsFirst entry queue)
    (p j : ℕ) (up : IsParent parents child.top p) (label : slice_index labels p ≡ j) (above : slice_get slots j ≡ Some (Open upper)) where
  law : HasFallingSpans m (tree_problem d groups parents)
  law = problem_falling m strict laws (tree_problem d groups parents) (groups_fittable groups (tree_pairs d parents) no_bounds fit)

  abbrev pub hc : IsOpenBlock d IsPoolOf m strict groups parents (numbered labels entry.block) h.limit child
  hc = h.waiting entry.block child at

  abbrev pub hu : IsOpenBlock d IsPoolOf m strict groups parents (numbered labels j) h.limit upper
  hu = h.waiting j upper above

  into : (g : ℕ) → g < length parents → g < length groups
  into g l = subst (λ (n : ℕ). g < n) count l

  hangs_of : (piece : ℕ → Bool) (b : Block P) → IsOpenBlock d IsPoolOf m strict groups parents piece h.limit b → Hangs parents tree piece b.top
  hangs_of piece b o g l u out = o.hangs g (into g l) u out

  lp : p < length parents
  lp = parent_below parents tree child.top p up

  -- the two blocks are two
  pub two_blocks : j ≡ entry.block → ⊥
  two_blocks e = omega (
    arith,
    deeper parents tree child.top p up,
    top_highest parents tree (numbered labels entry.block) child.top (hangs_of (numbered labels entry.block) child hc) (depth parents tree p) p (omega arith) lp (has_label (slice_index labels) entry.block p (label ∙ e)),
  )

  pub child_pool : IsPoolOfPiece IsPoolOf m (tree_problem d groups parents) (numbered labels entry.block) child.pool
  child_pool = hc.pool

  pub upper_pool : IsPoolOfPiece IsPoolOf m (tree_problem d groups parents) (numbered labels j) upper.pool
  upper_pool = hu.pool

  -- the groups of both
  pub union : ℕ → Bool
  union g = numbered labels j g || numbered labels entry.block g

  apart : (g : ℕ) → g < length groups → numbered labels j g ≡ true → numbered labels entry.block g ≡ false
  apart g l u = false_from_ne_true _ (λ v. two_blocks (sym (is_label (slice_index labels) j g u) ∙ is_label (slice_index labels) entry.block g v))

  pub rows_fittable : AreFittable (hu.pool.rows ++ hc.pool.rows)
  unfolding union
  rows_fittable = both_fittable IsPoolOf m strict laws groups (tree_pairs d parents) fit union (numbered labels j) (numbered labels entry.block) upper.pool child.pool hu.pool hc.pool (λ g l. refl) apart

  pub rows_some : 0 < length (hu.pool.rows ++ hc.pool.rows)
  unfolding union
  rows_some = both_some IsPoolOf m strict laws groups (tree_pairs d parents) fit union (numbered labels j) (numbered labels entry.block) upper.pool child.pool hu.pool hc.pool (λ g l. refl) apart

  -- Both are one block now, under one of their numbers.
  module _ (t : Block P) (top : t.top ≡ upper.top) (pooled : IsPoolOf t.pool (hu.pool.rows ++ hc.pool.rows)) (value : IsLeastMinimiser m strict (hu.pool.rows ++ hc.pool.rows) t.value)
      (members : (t.members.items ≡ upper.members.items ++ child.members.items) ⊎ (t.members.items ≡ child.members.items ++ upper.members.items))
      (number moved : ℕ) (which : ((number ≡ j) × (moved ≡ entry.block)) ⊎ ((number ≡ entry.block) × (moved ≡ j)))
      (labels' : List ℕ) (labels_count : length labels' ≡ length labels)
      (given : (g : ℕ) → g < length groups → slice_index labels g ≡ moved → slice_index labels' g ≡ number) (kept : (g : ℕ) → (g < length groups → slice_index labels g ≡ moved → ⊥) → slice_index labels' g ≡ slice_index labels g)
      (slots' : List (Slot P)) (slots_count : length slots' ≡ length slots) (new : slice_get slots' number ≡ Some (Open t)) (gone : slice_get slots' moved ≡ Some Joined)
      (others : (i : ℕ) → (i ≡ j → ⊥) → (i ≡ entry.block → ⊥) → slice_get slots' i ≡ slice_get slots i)
      (queue' : List Entry) (entered : Contains queue' (record { rank = rank_of d t.value; block = number })) (still : (e : Entry) → Contains queue e → Contains queue' e) (entries : All (λ e. (e.block < length groups) × (0 < e.rank.den)) queue') where
    piece : ℕ → Bool
    piece = numbered labels' number

    -- one of the two
    one_of : {A : Type 0} (i : ℕ) → (i ≡ number → A) → (i ≡ moved → A) → ((i ≡ j → ⊥) → (i ≡ entry.block → ⊥) → A) → A
    one_of i f g o = elim (cases_eq i number) [
      | inl e ↦ f e
      | inr a ↦ elim (cases_eq i moved) [
        | inl e ↦ g e
        | inr b ↦ elim which [
          | inl w ↦ o (λ x. a (x ∙ sym w.0)) (λ x. b (x ∙ sym w.1))
          | inr w ↦ o (λ x. b (x ∙ sym w.1)) (λ x. a (x ∙ sym w.0))
        ]
      ]
    ]

    apart_numbers : number ≡ moved → ⊥
    apart_numbers e = elim which [
      | inl w ↦ two_blocks (sym w.0 ∙ e ∙ w.1)
      | inr w ↦ two_blocks (sym w.1 ∙ sym e ∙ w.0)
    ]

    -- of the union
    from_union : (g : ℕ) → g < length groups → (numbered labels j g || numbered labels entry.block g) ≡ true → slice_index labels' g ≡ number
    from_union g l u = elim (cases_eq (slice_index labels g) moved) [
      | inl e ↦ given g l e
      | inr out ↦ kept g (λ _ e. out e) ∙ elim (or_cases _ _ u) [
        | inl v ↦ elim which [
          | inl w ↦ is_label (slice_index labels) j g v ∙ sym w.0
          | inr w ↦ absurd (out (is_label (slice_index labels) j g v ∙ sym w.1))
        ]
        | inr v ↦ elim which [
          | inl w ↦ absurd (out (is_label (slice_index labels) entry.block g v ∙ sym w.1))
          | inr w ↦ is_label (slice_index labels) entry.block g v ∙ sym w.0
        ]
      ]
    ]

    into_union : (g : ℕ) → g < length groups → slice_index labels' g ≡ number → (numbered labels j g || numbered labels entry.block g) ≡ true
    into_union g l u = elim (cases_eq (slice_index labels g) moved) [
      | inl e ↦ elim which [
        | inl w ↦ or_right (numbered labels j g) (numbered labels entry.block g) (has_label (slice_index labels) entry.block g (e ∙ w.1))
        | inr w ↦ or_left (numbered labels j g) (numbered labels entry.block g) (has_label (slice_index labels) j g (e ∙ w.1))
      ]
      | inr out ↦ elim which [
        | inl w ↦ or_left (numbered labels j g) (numbered labels entry.block g) (has_label (slice_index labels) j g (sym (kept g (λ _ e. out e)) ∙ u ∙ w.0))
        | inr w ↦ or_right (numbered labels j g) (numbered labels entry.block g) (has_label (slice_index labels) entry.block g (sym (kept g (λ _ e. out e)) ∙ u ∙ w.0))
      ]
    ]

    parts : (g : ℕ) → g < length groups → numbered labels' number g ≡ (numbered labels j g || numbered labels entry.block g)
    parts g l = same_test _ _ (λ u. into_union g l (is_label (slice_index labels') number g u)) (λ u. has_label (slice_index labels') number g (from_union g l u))

    -- the groups of any other block stay
    same_group : (i g : ℕ) → (i ≡ number → ⊥) → (i ≡ moved → ⊥) → numbered labels i g ≡ numbered labels' i g
    same_group i g a b = same_test _ _
        (λ u. has_label (slice_index labels') i g (kept g (λ l e. b (sym (is_label (slice_index labels) i g u) ∙ e)) ∙ is_label (slice_index labels) i g u))
        (λ u. has_label (slice_index labels) i g (back u (is_label (slice_index labels') i g u))) where
          back : numbered labels' i g ≡ true → slice_index labels' g ≡ i → slice_index labels g ≡ i
          back u e = elim (cases_lt g (length groups)) [
            | inl l ↦ elim (cases_eq (slice_index labels g) moved) [
              | inl f ↦ absurd (a (sym e ∙ given g l f))
              | inr out ↦ sym (kept g (λ _ f. out f)) ∙ e
            ]
            | inr past ↦ sym (kept g (λ l f. absurd (omega arith))) ∙ e
          ]

    same_piece : (i : ℕ) → (i ≡ number → ⊥) → (i ≡ moved → ⊥) → numbered labels i ≡ numbered labels' i
    same_piece i a b = λ x g. same_group i g a b x

    pool : (q : IsPoolOfPiece IsPoolOf m (tree_problem d groups parents) (numbered labels' number) t.pool) × (q.rows ≡ hu.pool.rows ++ hc.pool.rows)
    pool = both_pools IsPoolOf m strict laws groups (tree_pairs d parents) fit (numbered labels' number) (numbered labels j) (numbered labels entry.block) upper.pool child.pool hu.pool hc.pool parts apart t.pool pooled

    minimiser : IsLeastMinimiser m strict pool.0.rows t.value
    minimiser = subst (λ (rows : List Row). IsLeastMinimiser m strict rows t.value) (sym pool.1) value

    ranked : (i : ℕ) (b : Block P) → slice_get slots i ≡ Some (Open b) → IsInOrder d b.value child.value
    ranked i b e = first_ranked d IsPoolOf m strict groups parents tree count law labels slots entry queue h child at same first i b e

    cden : 0 < child.value.den
    cden = tree_den d m (tree_problem d groups parents) strict (numbered labels entry.block) child.top child.value h.limit hc.block

    near : IsInOrder d child.value h.limit
    near = tree_within d m (tree_problem d groups parents) strict (numbered labels entry.block) child.top child.value h.limit hc.block

    block : IsTreeBlock d m (tree_problem d groups parents) strict (numbered labels' number) t.top t.value child.value
    block = subst (λ (x : ℕ). IsTreeBlock d m (tree_problem d groups parents) strict (numbered labels' number) x t.value child.value) (sym top)
        (tree_absorbed m strict groups parents tree count (numbered labels' number) (numbered labels j) (numbered labels entry.block) upper.top child.top p upper.value h.limit child.value h.limit t.value parts apart
        (hangs_of (numbered labels j) upper hu) (hangs_of (numbered labels entry.block) child hc) up (has_label (slice_index labels) j p label) d law hu.block hc.block (ranked j upper above) near
        (pool_value IsPoolOf m strict laws groups (tree_pairs d parents) fit (numbered labels' number) t.pool pool.0 t.value minimiser)
        (pool_costs IsPoolOf m strict laws groups (tree_pairs d parents) fit (numbered labels' number) t.pool pool.0 t.value minimiser))

    hangs : (g : ℕ) → g < length groups → numbered labels' number g ≡ true → (g ≡ t.top → ⊥) → (q : ℕ) × IsParent parents g q × (numbered labels' number q ≡ true)
    hangs g l u out = hangs_together parents tree (numbered labels' number) (numbered labels j) (numbered labels entry.block) upper.top child.top p (λ g l. parts g (into g l))
        (hangs_of (numbered labels j) upper hu) (hangs_of (numbered labels entry.block) child hc) up (has_label (slice_index labels) j p label) g (subst (λ (n : ℕ). g < n) (sym count) l) u (λ e. out (e ∙ sym top))

    inside_upper : All (λ g. (g < length groups) × (numbered labels' number g ≡ true)) upper.members.items
    inside_upper = All-weaker (λ g. (g < length groups) × (numbered labels j g ≡ true)) (λ g. (g < length groups) × (numbered labels' number g ≡ true))
        (λ g k. (k.0, parts g k.0 ∙ or_left _ _ k.1)) upper.members.items hu.members

    inside_child : All (λ g. (g < length groups) × (numbered labels' number g ≡ true)) child.members.items
    inside_child = All-weaker (λ g. (g < length groups) × (numbered labels entry.block g ≡ true)) (λ g. (g < length groups) × (numbered labels' number g ≡ true))
        (λ g k. (k.0, parts g k.0 ∙ or_right _ _ k.1)) child.members.items hc.members

    inside : All (λ g. (g < length groups) × (numbered labels' number g ≡ true)) t.members.items
    inside = elim members [
      | inl e ↦ subst (All (λ g. (g < length groups) × (numbered labels' number g ≡ true))) (sym e) (All-append (λ g. (g < length groups) × (numbered labels' number g ≡ true)) upper.members.items child.members.items inside_upper inside_child)
      | inr e ↦ subst (All (λ g. (g < length groups) × (numbered labels' number g ≡ true))) (sym e) (All-append (λ g. (g < length groups) × (numbered labels' number g ≡ true)) child.members.items upper.members.items inside_child inside_upper)
    ]

    all : (g : ℕ) → g < length groups → numbered labels' number g ≡ true → Contains t.members.items g
    all g l u = elim (or_cases (numbered labels j g) (numbered labels entry.block g) (sym (parts g l) ∙ u)) [
      | inl v ↦ elim members [
        | inl e ↦ subst (λ (xs : List ℕ). Contains xs g) (sym e) (Contains-append_left upper.members.items child.members.items g (hu.all g l v))
        | inr e ↦ subst (λ (xs : List ℕ). Contains xs g) (sym e) (Contains-append_right child.members.items upper.members.items g (hu.all g l v))
      ]
      | inr v ↦ elim members [
        | inl e ↦ subst (λ (xs : List ℕ). Contains xs g) (sym e) (Contains-append_right upper.members.items child.members.items g (hc.all g l v))
        | inr e ↦ subst (λ (xs : List ℕ). Contains xs g) (sym e) (Contains-append_left child.members.items upper.members.items g (hc.all g l v))
      ]
    ]

    new_block : IsOpenBlock d IsPoolOf m strict groups parents (numbered labels' number) child.value t
    new_block = record { block = block; pool = pool.0; hangs = hangs; members = inside; all = all }

    -- a slot of what waits, or is settled, is that of before, but for the new block
    open_before : (i : ℕ) (b : Block P) → slice_get slots' i ≡ Some (Open b) → (i ≡ number → ⊥) → ((i ≡ j → ⊥) × (i ≡ entry.block → ⊥) × (slice_get slots i ≡ Some (Open b)))
    open_before i b e out = one_of i (λ f. absurd (out f)) (λ f. absurd (open_joined b (sym e ∙ ap (slice_get slots') f ∙ gone))) (λ x y. (x, y, sym (others i x y) ∙ e))

    settled_before : (i : ℕ) (v : Fraction) → slice_get slots' i ≡ Some (Settled v) → ((i ≡ j → ⊥) × (i ≡ entry.block → ⊥) × (slice_get slots i ≡ Some (Settled v)))
    settled_before i v e = one_of i (λ f. absurd (open_settled t v (sym new ∙ ap (slice_get slots') (sym f) ∙ e))) (λ f. absurd (settled_joined v (sym e ∙ ap (slice_get slots') f ∙ gone))) (λ x y. (x, y, sym (others i x y) ∙ e))

    off_number : (i : ℕ) → (i ≡ j → ⊥) → (i ≡ entry.block → ⊥) → i ≡ number → ⊥
    off_number i x y e = elim which [ inl w ↦ x (e ∙ w.0) | inr w ↦ y (e ∙ w.0) ]

    off_moved : (i : ℕ) → (i ≡ j → ⊥) → (i ≡ entry.block → ⊥) → i ≡ moved → ⊥
    off_moved i x y e = elim which [ inl w ↦ y (e ∙ w.1) | inr w ↦ x (e ∙ w.1) ]

    number_below : number < length groups
    number_below = (All-contains (λ e. (e.block < length groups) × (0 < e.rank.den)) queue' (record { rank = rank_of d t.value; block = number }) entries entered).0

    waiting : (i : ℕ) (b : Block P) → slice_get slots' i ≡ Some (Open b) → IsOpenBlock d IsPoolOf m strict groups parents (numbered labels' i) child.value b
    waiting i b e = elim (cases_eq i number) [
      | inl f ↦ subst (λ (n : ℕ). IsOpenBlock d IsPoolOf m strict groups parents (numbered labels' n) child.value b) (sym f)
          (subst (λ (x : Block P). IsOpenBlock d IsPoolOf m strict groups parents (numbered labels' number) child.value x) (same_open t b (sym new ∙ ap (slice_get slots') (sym f) ∙ e)) new_block)
      | inr out ↦
          let o : (i ≡ j → ⊥) × (i ≡ entry.block → ⊥) × (slice_get slots i ≡ Some (Open b)) = open_before i b e out in
          moved_block d IsPoolOf m strict groups parents law (numbered labels i) (numbered labels' i) h.limit child.value b (h.waiting i b o.2) (same_piece i out (off_moved i o.0 o.1)) cden (ranked i b o.2) near
    ]

    below_level : (i : ℕ) (v : Fraction) → slice_get slots i ≡ Some (Settled v) → 0 < v.den → IsInOrder d t.value v
    below_level i v e lv = in_order_trans d t.value child.value v (tree_den d m (tree_problem d groups parents) strict (numbered labels' number) t.top t.value child.value block) cden lv
        (tree_within d m (tree_problem d groups parents) strict (numbered labels' number) t.top t.value child.value block) (h.above i v entry.block child e at)

    labels_same : length labels' ≡ length groups
    labels_same = labels_count ∙ h.labels_count

    label_below : (g : ℕ) → g < length labels' → slice_index labels' g < length groups
    label_below g l = elim (cases_eq (slice_index labels g) moved) [
      | inl e ↦ subst (λ (n : ℕ). n < length groups) (sym (given g (subst (λ (n : ℕ). g < n) labels_same l) e)) number_below
      | inr out ↦ subst (λ (n : ℕ). n < length groups) (sym (kept g (λ _ e. out e))) (All-get_or (λ n. n < length groups) labels g 0 (subst (λ (n : ℕ). g < n) labels_count l) h.numbers)
    ]

    live : (g : ℕ) → g < length groups → slice_get slots' (slice_index labels' g) ≡ Some Joined → ⊥
    live g l e = elim (cases_eq (slice_index labels' g) number) [
      | inl f ↦ open_joined t (sym new ∙ ap (slice_get slots') (sym f) ∙ e)
      | inr out ↦ elim (cases_eq (slice_index labels g) moved) [
        | inl f ↦ out (given g l f)
        | inr away ↦
            let stays : slice_index labels' g ≡ slice_index labels g = kept g (λ _ f. away f) in
            one_of (slice_index labels g) (λ f. out (stays ∙ f)) away (λ x y. h.live g l (sym (others (slice_index labels g) x y) ∙ ap (slice_get slots') (sym stays) ∙ e))
      ]
    ]

    rises : (i : ℕ) (v : Fraction) (g q : ℕ) → slice_get slots' i ≡ Some (Settled v) → IsParent parents g q → slice_index labels' g ≡ i → (w : Fraction) × (slice_get slots' (slice_index labels' q) ≡ Some (Settled w)) × IsInOrder d v w
    rises i v g q e upward number_is =
        let o : (i ≡ j → ⊥) × (i ≡ entry.block → ⊥) × (slice_get slots i ≡ Some (Settled v)) = settled_before i v e in
        let lg : g < length groups = into g (child_below parents tree g q upward) in
        let old : (w : Fraction) × (slice_get slots (slice_index labels q) ≡ Some (Settled w)) × IsInOrder d v w = h.rises i v g q o.2 upward (before g i lg number_is (off_number i o.0 o.1)) in
        let x : slice_index labels q ≡ j → ⊥ = λ f. open_settled upper old.0 (sym above ∙ ap (slice_get slots) (sym f) ∙ old.1) in
        let y : slice_index labels q ≡ entry.block → ⊥ = λ f. open_settled child old.0 (sym at ∙ ap (slice_get slots) (sym f) ∙ old.1) in
        (old.0, ap (slice_get slots') (kept q (λ _ f. off_moved (slice_index labels q) x y f)) ∙ others (slice_index labels q) x y ∙ old.1, old.2) where
          before : (g i : ℕ) → g < length groups → slice_index labels' g ≡ i → (i ≡ number → ⊥) → slice_index labels g ≡ i
          before g i l e out = elim (cases_eq (slice_index labels g) moved) [
            | inl f ↦ absurd (out (sym e ∙ given g l f))
            | inr away ↦ sym (kept g (λ _ f. away f)) ∙ e
          ]

    pub block_absorbs : IsForest d IsPoolOf m strict groups parents labels' slots' queue'
    block_absorbs = record {
      limit = child.value;
      limit_den = cden;
      labels_count = labels_same;
      slots_count = slots_count ∙ h.slots_count;
      numbers = All-from_get_or (λ n. n < length groups) labels' 0 label_below;
      live = live;
      waiting = waiting;
      entered = λ i b e. elim (cases_eq i number) [
        | inl f ↦ subst (λ (x : Entry). Contains queue' x) (entry_is i b f (same_open t b (sym new ∙ ap (slice_get slots') (sym f) ∙ e))) entered
        | inr out ↦
            let o : (i ≡ j → ⊥) × (i ≡ entry.block → ⊥) × (slice_get slots i ≡ Some (Open b)) = open_before i b e out in
            elim (cons_cases queue entry (record { rank = rank_of d b.value; block = i }) (h.entered i b o.2)) [
              | inl f ↦ absurd (o.1 (sym (ap (λ (x : Entry). x.block) f)))
              | inr c ↦ still (record { rank = rank_of d b.value; block = i }) c
            ]
      ];
      entries = entries;
      level = λ i v e.
          let o : (i ≡ j → ⊥) × (i ≡ entry.block → ⊥) × (slice_get slots i ≡ Some (Settled v)) = settled_before i v e in
          subst (λ (q : ℕ → Bool). IsLevel m (tree_problem d groups parents) strict q v) (same_piece i (off_number i o.0 o.1) (off_moved i o.0 o.1)) (h.level i v o.2);
      above = λ i v k b e f.
          let o : (i ≡ j → ⊥) × (i ≡ entry.block → ⊥) × (slice_get slots i ≡ Some (Settled v)) = settled_before i v e in
          elim (cases_eq k number) [
            | inl g ↦ subst (λ (x : Block P). IsInOrder d x.value v) (same_open t b (sym new ∙ ap (slice_get slots') (sym g) ∙ f)) (below_level i v o.2 (h.level i v o.2).den)
            | inr out ↦ h.above i v k b o.2 (open_before k b f out).2
          ];
      rises = rises;
    } where
      entry_is : (i : ℕ) (b : Block P) → i ≡ number → t ≡ b → ◌≡◌ {A = Entry} (record { rank = rank_of d t.value; block = number }) (record { rank = rank_of d b.value; block = i })
      entry_is i b e f = ap (λ (n : ℕ). entry_of t n) (sym e) ∙ ap (λ (x : Block P). entry_of x i) f where
        entry_of : Block P → ℕ → Entry
        entry_of x n = record { rank = rank_of d x.value; block = n }
