-- each group a block by itself: the forest that a fit starts from
use Rattle.std.proofs.Common.{◌≡◌, ℕ, zero, suc, ◌+◌, ◌<◌, refl, sym, ap, subst, ◌∙◌, arith, Bool, true, List, [], ◌∷◌, ◌++◌, length, inl, inr, length-append}
use Rattle.std.proofs.lemmas.Bool.{cases_eq}
use Rattle.std.proofs.lemmas.List.{get_or_at, get_or_append_left}
use Rattle.std.proofs.lemmas.List.Elements.{All-cons, All-nil, All-from_get_or, All-weaker}
use Rattle.std.proofs.lemmas.List.Sorted.{All-permutation, Contains-permutation}
use Rattle.std.proofs.lemmas.Option.{slice_get_within}
use Rattle.std.specs.List.Sorted.{IsPermutation}
use Rattle.std.specs.Prelude.{pos, All, Contains, slice_get, slice_index, Option, Some, None}
use Rattle.ofit_num.specs.declared.row.Row.{Row}
use Rattle.ofit_num.specs.Groups.{RowLists}
use Rattle.ofit_num.specs.Unbounded.{no_bounds}
use Rattle.ofit_num.specs.Meaning.{Meaning}
use Rattle.ofit_num.specs.Fraction.{Fraction}
use Rattle.ofit_num.specs.RowTotals.{all_rows}
use Rattle.ofit_num.specs.Law.{HasFallingSpans}
use Rattle.ofit_num.proofs.Lists.{All-slice_get}
use Rattle.ofit_loss.specs.Rows.{AreFittable}
use Rattle.ofit_loss.specs.Laws.{HasLossLaws}
use Rattle.ofit_loss.specs.Least.{IsLeastMinimiser}
use Rattle.ofit_loss.proofs.ProblemLaws.{groups_fittable, problem_falling}
use Rattle.ofit_tree.specs.declared.direction.Direction.{Direction}
use Rattle.ofit_tree.specs.declared.block.Block.{Block}
use Rattle.ofit_tree.specs.declared.entry.Entry.{Entry}
use Rattle.ofit_tree.specs.declared.slot.Slot.{Slot}
use Rattle.ofit_tree.specs.declared.slot.Slot.TheVariants.{Open, Settled, Joined}
use Rattle.ofit_tree.specs.Entry.{IsInOrder, rank_of}
use Rattle.ofit_tree.specs.Tree.{tree_pairs, tree_problem}
use Rattle.ofit_tree.specs.Level.{IsTreeBlock}
use Rattle.ofit_tree.specs.Forest.{numbered, IsPoolOfPiece, IsOpenBlock, IsForest, IsLoneBlock, IsStart}
use Rattle.ofit_tree.proofs.Pools.{lone_pool, pool_value, pool_costs}
use Rattle.ofit_tree.proofs.Ranks.{in_order_either}
use Rattle.ofit_tree.proofs.TreeBlocks.{in_order_same, in_order_trans, tree_lone}
use Rattle.ofit_tree.proofs.Closing.{same_open, open_settled, open_joined}
use Rattle.ofit_num.proofs.Levels.{is_label, has_label}
use Rattle.ofit_num.proofs.Elements.{slice_get-push, slice_get-before}

-- some value stands at or past each of those that wait
highest : {P : Type 0} (d : Direction) (slots : List (Slot P)) → ((k : ℕ) (b : Block P) → slice_get slots k ≡ Some (Open b) → 0 < b.value.den)
    → (c : Fraction) × (0 < c.den) × ((k : ℕ) (b : Block P) → slice_get slots k ≡ Some (Open b) → IsInOrder d b.value c)
highest {P} d [] dens = (record { num = pos 0; den = 1 }, omega arith, λ k b e. absurd (never b e)) where
  never : (b : Block P) → ◌≡◌ {A = Option (Slot P)} None (Some (Open b)) → ⊥
  never b e = cc
highest {P} d (Settled v ∷ slots) dens = go (highest d slots (λ k b e. dens (suc k) b e)) where
  go : (c : Fraction) × (0 < c.den) × ((k : ℕ) (b : Block P) → slice_get slots k ≡ Some (Open b) → IsInOrder d b.value c) → (c : Fraction) × (0 < c.den) × ((k : ℕ) (b : Block P) → slice_get (Settled v ∷ slots) k ≡ Some (Open b) → IsInOrder d b.value c)
  go c = (c.0, c.1, each) where
    each : (k : ℕ) (b : Block P) → slice_get (Settled v ∷ slots) k ≡ Some (Open b) → IsInOrder d b.value c.0
    each zero b e = absurd (open_settled b v (sym e))
    each (suc k) b e = c.2 k b e
highest {P} d (Joined ∷ slots) dens = go (highest d slots (λ k b e. dens (suc k) b e)) where
  go : (c : Fraction) × (0 < c.den) × ((k : ℕ) (b : Block P) → slice_get slots k ≡ Some (Open b) → IsInOrder d b.value c) → (c : Fraction) × (0 < c.den) × ((k : ℕ) (b : Block P) → slice_get (Joined ∷ slots) k ≡ Some (Open b) → IsInOrder d b.value c)
  go c = (c.0, c.1, each) where
    each : (k : ℕ) (b : Block P) → slice_get (Joined ∷ slots) k ≡ Some (Open b) → IsInOrder d b.value c.0
    each zero b e = absurd (open_joined b (sym e))
    each (suc k) b e = c.2 k b e
highest {P} d (Open a ∷ slots) dens = go (dens 0 a refl) (highest d slots (λ k b e. dens (suc k) b e)) (λ k b e. dens (suc k) b e) where
  go : 0 < a.value.den → (c : Fraction) × (0 < c.den) × ((k : ℕ) (b : Block P) → slice_get slots k ≡ Some (Open b) → IsInOrder d b.value c) → ((k : ℕ) (b : Block P) → slice_get slots k ≡ Some (Open b) → 0 < b.value.den)
      → (c : Fraction) × (0 < c.den) × ((k : ℕ) (b : Block P) → slice_get (Open a ∷ slots) k ≡ Some (Open b) → IsInOrder d b.value c)
  go la c dens' = in_order_either d a.value c.0 (λ up. (c.0, c.1, past up)) (λ down. (a.value, la, own down)) where
    past : IsInOrder d a.value c.0 → (k : ℕ) (b : Block P) → slice_get (Open a ∷ slots) k ≡ Some (Open b) → IsInOrder d b.value c.0
    past up zero b e = subst (λ (x : Block P). IsInOrder d x.value c.0) (same_open a b e) up
    past up (suc k) b e = c.2 k b e

    own : IsInOrder d c.0 a.value → (k : ℕ) (b : Block P) → slice_get (Open a ∷ slots) k ≡ Some (Open b) → IsInOrder d b.value a.value
    own down zero b e = subst (λ (x : Block P). IsInOrder d x.value a.value) (same_open a b e) (in_order_same d a.value)
    own down (suc k) b e = in_order_trans d b.value c.0 a.value (dens' k b e) c.1 la (c.2 k b e) down

module _ {P : Type 0} (d : Direction) (IsPoolOf : P → List Row → Type 0) (m : Meaning) (strict : Bool) (groups : RowLists) where
  pub start_none : IsStart {P = P} d IsPoolOf m strict groups 0 [] [] []
  start_none = record {
    labels_count = refl;
    slots_count = refl;
    numbers = λ g l. absurd (omega arith);
    lone = λ k l. absurd (omega arith);
    entries = All-nil (λ e. (e.block < 0) × (0 < e.rank.den));
  }

  -- one group more
  pub start_more : (n : ℕ) (labels : List ℕ) (slots : List (Slot P)) (queue queue' : List Entry) (b : Block P) → IsStart d IsPoolOf m strict groups n labels slots queue → IsLoneBlock IsPoolOf m strict groups n b
      → IsPermutation (record { rank = rank_of d b.value; block = n } ∷ queue) queue' → 0 < (rank_of d b.value).den → IsStart d IsPoolOf m strict groups (n + 1) (labels ++ n ∷ []) (slots ++ Open b ∷ []) queue'
  start_more n labels slots queue queue' b h lone moved den = record {
    labels_count = omega (arith, length-append labels (n ∷ []), h.labels_count);
    slots_count = omega (arith, length-append slots (Open b ∷ []), h.slots_count);
    numbers = λ g l. elim (cases_eq g n) [
      | inl e ↦ ap (slice_index (labels ++ n ∷ [])) e ∙ get_or_at labels n [] 0 n h.labels_count ∙ sym e
      | inr out ↦ get_or_append_left labels (n ∷ []) 0 g (inside g l out) ∙ h.numbers g (omega (arith, out))
    ];
    lone = λ k l. elim (cases_eq k n) [
      | inl e ↦ subst (λ (i : ℕ). (c : Block P) × (slice_get (slots ++ Open b ∷ []) i ≡ Some (Open c)) × IsLoneBlock IsPoolOf m strict groups i c × Contains queue' (record { rank = rank_of d c.value; block = i })) (sym e)
          (b, ap (slice_get (slots ++ Open b ∷ [])) (sym h.slots_count) ∙ slice_get-push slots (Open b), lone, Contains-permutation (record { rank = rank_of d b.value; block = n } ∷ queue) queue' (record { rank = rank_of d b.value; block = n }) moved (0, omega arith, refl))
      | inr out ↦
          let old : (c : Block P) × (slice_get slots k ≡ Some (Open c)) × IsLoneBlock IsPoolOf m strict groups k c × Contains queue (record { rank = rank_of d c.value; block = k }) = h.lone k (omega (arith, out)) in (
            old.0,
            slice_get-before slots (Open b) k (slice_get_within slots k (Open old.0) old.1) ∙ old.1,
            old.2,
            Contains-permutation (record { rank = rank_of d b.value; block = n } ∷ queue) queue' (record { rank = rank_of d old.0.value; block = k }) moved (later _ _ _ old.3),
          )
    ];
    entries = All-permutation (λ e. (e.block < n + 1) × (0 < e.rank.den)) (record { rank = rank_of d b.value; block = n } ∷ queue) queue' moved
        (All-cons (λ e. (e.block < n + 1) × (0 < e.rank.den)) (record { rank = rank_of d b.value; block = n }) queue (omega arith, den)
        (All-weaker (λ e. (e.block < n) × (0 < e.rank.den)) (λ e. (e.block < n + 1) × (0 < e.rank.den)) (λ e k. (omega (arith, k.0), k.1)) queue h.entries));
  } where
    inside : (g : ℕ) → g < n + 1 → (g ≡ n → ⊥) → g < length labels
    inside g l out = omega (arith, out, h.labels_count)

    later : (y : Entry) (ys : List Entry) (x : Entry) → Contains ys x → Contains (y ∷ ys) x
    later y ys x k = (suc k.0, omega (arith, k.1), k.2)

  module _ (laws : HasLossLaws m strict) (fit : AreFittable (all_rows groups)) (filled : All (λ rows. 0 < length rows) groups) (parents : List (Option ℕ)) (labels : List ℕ) (slots : List (Slot P)) (queue : List Entry) (h : IsStart d IsPoolOf m strict groups (length groups) labels slots queue) where
    law : HasFallingSpans m (tree_problem d groups parents)
    law = problem_falling m strict laws (tree_problem d groups parents) (groups_fittable groups (tree_pairs d parents) no_bounds fit)

    at_block : (k : ℕ) (b : Block P) → slice_get slots k ≡ Some (Open b) → IsLoneBlock IsPoolOf m strict groups k b × Contains queue (record { rank = rank_of d b.value; block = k })
    at_block k b e =
        let l : k < length groups = subst (λ (n : ℕ). k < n) h.slots_count (slice_get_within slots k (Open b) e) in
        let it : (c : Block P) × (slice_get slots k ≡ Some (Open c)) × IsLoneBlock IsPoolOf m strict groups k c × Contains queue (record { rank = rank_of d c.value; block = k }) = h.lone k l in
        subst (λ (x : Block P). IsLoneBlock IsPoolOf m strict groups k x × Contains queue (record { rank = rank_of d x.value; block = k })) (same_open it.0 b (sym it.1 ∙ e)) (it.2, it.3)

    top_value : (c : Fraction) × (0 < c.den) × ((k : ℕ) (b : Block P) → slice_get slots k ≡ Some (Open b) → IsInOrder d b.value c)
    top_value = highest d slots (λ k b e. (at_block k b e).0.value.den)

    never_settled : (k : ℕ) (v : Fraction) → slice_get slots k ≡ Some (Settled v) → ⊥
    never_settled k v e = open_settled (it k v e).0 v (sym (it k v e).1 ∙ e) where
      it : (k : ℕ) (v : Fraction) → slice_get slots k ≡ Some (Settled v) → (c : Block P) × (slice_get slots k ≡ Some (Open c)) × IsLoneBlock IsPoolOf m strict groups k c × Contains queue (record { rank = rank_of d c.value; block = k })
      it k v e = h.lone k (subst (λ (n : ℕ). k < n) h.slots_count (slice_get_within slots k (Settled v) e))

    open_start : (k : ℕ) (b : Block P) → slice_get slots k ≡ Some (Open b) → IsOpenBlock d IsPoolOf m strict groups parents (numbered labels k) top_value.0 b
    open_start k b e = record {
      block = subst (λ (x : ℕ). IsTreeBlock d m (tree_problem d groups parents) strict (numbered labels k) x b.value top_value.0) (sym one.top)
          (tree_lone m (tree_problem d groups parents) law strict d (numbered labels k) k b.value top_value.0 l here alone
          (pool_value IsPoolOf m strict laws groups (tree_pairs d parents) fit (numbered labels k) b.pool pool.0 b.value least) (pool_costs IsPoolOf m strict laws groups (tree_pairs d parents) fit (numbered labels k) b.pool pool.0 b.value least) top_value.1 (top_value.2 k b e));
      pool = pool.0;
      hangs = λ g lg u out. absurd (out (alone g lg u ∙ sym one.top));
      members = subst (All (λ g. (g < length groups) × (numbered labels k g ≡ true))) (sym one.members) (All-cons (λ g. (g < length groups) × (numbered labels k g ≡ true)) k [] (l, here) (All-nil (λ g. (g < length groups) × (numbered labels k g ≡ true))));
      all = λ g lg u. subst (λ (xs : List ℕ). Contains xs g) (sym one.members) (0, omega arith, sym (alone g lg u));
    } where
      one : IsLoneBlock IsPoolOf m strict groups k b
      one = (at_block k b e).0

      l : k < length groups
      l = subst (λ (n : ℕ). k < n) h.slots_count (slice_get_within slots k (Open b) e)

      here : numbered labels k k ≡ true
      here = has_label (slice_index labels) k k (h.numbers k l)

      alone : (g : ℕ) → g < length groups → numbered labels k g ≡ true → g ≡ k
      alone g lg u = sym (h.numbers g lg) ∙ is_label (slice_index labels) k g u

      pool : (q : IsPoolOfPiece IsPoolOf m (tree_problem d groups parents) (numbered labels k) b.pool) × (q.rows ≡ one.rows)
      pool = lone_pool IsPoolOf m strict laws groups (tree_pairs d parents) fit (numbered labels k) k one.rows b.pool l one.at (All-slice_get (λ rows. 0 < length rows) groups k one.rows filled one.at) here alone one.pool

      least : IsLeastMinimiser m strict pool.0.rows b.value
      least = subst (λ (rows : List Row). IsLeastMinimiser m strict rows b.value) (sym pool.1) one.value

    -- all groups by themselves
    pub start_forest : IsForest d IsPoolOf m strict groups parents labels slots queue
    start_forest = record {
      limit = top_value.0;
      limit_den = top_value.1;
      labels_count = h.labels_count;
      slots_count = h.slots_count;
      numbers = All-from_get_or (λ k. k < length groups) labels 0 (λ g l. below g (subst (λ (n : ℕ). g < n) h.labels_count l));
      live = λ g l e. open_joined (h.lone g l).0 (sym (h.lone g l).1 ∙ ap (slice_get slots) (sym (h.numbers g l)) ∙ e);
      waiting = open_start;
      entered = λ k b e. (at_block k b e).1;
      entries = h.entries;
      level = λ k v e. absurd (never_settled k v e);
      above = λ k v j b e f. absurd (never_settled k v e);
      rises = λ k v g p e up number. absurd (never_settled k v e);
    } where
      below : (g : ℕ) → g < length groups → slice_index labels g < length groups
      below g l = subst (λ (n : ℕ). n < length groups) (sym (h.numbers g l)) l
