-- the stack of the chain's fit: how a new group's block absorbs the blocks before it
use Rattle.std.proofs.Common.{◌≡◌, ℕ, zero, suc, ◌+◌, ◌<◌, ◌≤◌, refl, sym, ap, subst, ◌∙◌, arith, Bool, false, List, [], ◌∷◌, ◌++◌, map, length, take, replicate, get_or, append-nil, append_assoc, add-one, ◌⊎◌, inl, inr}
use Rattle.std.proofs.lemmas.Int.{ints, by_lt_z}
use Rattle.std.proofs.lemmas.Option.{slice_get_read, same_Some}
use Rattle.std.proofs.lemmas.List.{take_all}
use Rattle.std.specs.Prelude.{pos, ◌*ℤ◌, All, slice_get, Some}
use Rattle.ofit_num.specs.declared.row.Row.{Row}
use Rattle.ofit_num.specs.Groups.{RowLists}
use Rattle.ofit_num.specs.Problem.{Problem}
use Rattle.ofit_num.specs.Meaning.{Meaning}
use Rattle.ofit_num.specs.Fraction.{Fraction, AtMost}
use Rattle.ofit_num.specs.Below.{Below}
use Rattle.ofit_num.specs.Trial.{trial_of}
use Rattle.ofit_num.specs.Fit.{LeastBestValues}
use Rattle.ofit_num.specs.Settled.{IsSettled, IsLeastSettled}
use Rattle.ofit_num.specs.RowTotals.{all_rows}
use Rattle.ofit_num.specs.Law.{greatest_at, HasFallingSpans}
use Rattle.ofit_num.specs.Sets.{set_sum}
use Rattle.ofit_num.specs.Steep.{IsSteep}
use Rattle.ofit_num.specs.Block.{IsPooled, IsBlock, IsCost}
use Rattle.ofit_loss.specs.Rows.{AreFittable}
use Rattle.ofit_loss.specs.Laws.{HasLossLaws}
use Rattle.ofit_loss.specs.Least.{IsLeastMinimiser}
use Rattle.ofit_loss.proofs.ProblemLaws.{groups_fittable, problem_falling}
use Rattle.ofit_chain.specs.declared.block.Block.{Block}
use Rattle.ofit_chain.specs.Chain.{chain_pairs, chain_problem}
use Rattle.ofit_chain.specs.Stretch.{run, Stretch, IsStretch, AreStretches, Rise, groups_in, values_of}
use Rattle.ofit_loss.specs.Pool.{CanMerge}
use Rattle.ofit_chain.specs.Covers.{rows_in, stretch_of, IsBlockAt, AreBlocks, Covers}
use Rattle.ofit_chain.proofs.Runs.{lone_run, lone_run_steep, absorbed_run, absorbed_steep}
use Rattle.ofit_chain.proofs.Values.{values_least_best, values_settled, values_least_settled}
use Rattle.ofit_chain.proofs.Rows.{rows_in-one, rows_in-add, fittable_in, some_in, pooled_in, costs_in}

-- a list is empty, or has a last element, which is one
pub last_or_none : {A : Type 0} (xs : List A) → (xs ≡ []) ⊎ ((rest : List A) × (last : A) × (xs ≡ rest ++ last ∷ []))
last_or_none [] = inl refl
last_or_none {A} (x ∷ xs) = elim (last_or_none xs) [
  | inl e ↦ inr ([], x, ap (λ (ys : List A). x ∷ ys) e)
  | inr k ↦ inr (x ∷ k.0, k.1, ap (λ (ys : List A). x ∷ ys) k.2)
]

not_empty : {A : Type 0} (xs : List A) (x : A) → [] ≡ xs ++ x ∷ [] → ⊥
not_empty [] x e = cc
not_empty (y ∷ xs) x e = cc

pub same_last : {A : Type 0} (xs ys : List A) (x y : A) → xs ++ x ∷ [] ≡ ys ++ y ∷ [] → (xs ≡ ys) × (x ≡ y)
same_last [] [] x y e = (refl, cc)
same_last [] (z ∷ ys) x y e = absurd (not_empty ys y (tails e)) where
  tails : x ∷ [] ≡ z ∷ (ys ++ y ∷ []) → [] ≡ ys ++ y ∷ []
  tails e = cc
same_last (z ∷ xs) [] x y e = absurd (not_empty xs x (tails e)) where
  tails : z ∷ (xs ++ x ∷ []) ≡ y ∷ [] → [] ≡ xs ++ x ∷ []
  tails e = cc
same_last {A} (z ∷ xs) (w ∷ ys) x y e = go (same_last xs ys x y (tails e)) where
  tails : z ∷ (xs ++ x ∷ []) ≡ w ∷ (ys ++ y ∷ []) → xs ++ x ∷ [] ≡ ys ++ y ∷ []
  tails e = cc

  heads : z ∷ (xs ++ x ∷ []) ≡ w ∷ (ys ++ y ∷ []) → z ≡ w
  heads e = cc

  go : (xs ≡ ys) × (x ≡ y) → (z ∷ xs ≡ w ∷ ys) × (x ≡ y)
  go k = (both (heads e) k.0, k.1) where
    both : z ≡ w → xs ≡ ys → z ∷ xs ≡ w ∷ ys
    both e f = cc

module _ {P : Type 0} (IsPoolOf : P → List Row → Type 0) (m : Meaning) (strict : Bool) (groups : RowLists) where
  pub groups_in-push : (bs : List (Block P)) (b : Block P) → groups_in (map stretch_of (bs ++ b ∷ [])) ≡ groups_in (map stretch_of bs) + b.groups
  groups_in-push [] b = omega arith
  groups_in-push (c ∷ bs) b = omega (arith, groups_in-push bs b)

  -- one block more, and one less
  pub AreBlocks-push : (bs : List (Block P)) (b : Block P) (i : ℕ) → AreBlocks IsPoolOf m strict groups i bs → IsBlockAt IsPoolOf m strict groups (i + groups_in (map stretch_of bs)) b → AreBlocks IsPoolOf m strict groups i (bs ++ b ∷ [])
  AreBlocks-push [] b i are at = (subst (λ (n : ℕ). IsBlockAt IsPoolOf m strict groups n b) (omega arith) at, tt)
  AreBlocks-push (c ∷ bs) b i are at = (are.0, AreBlocks-push bs b (i + c.groups) are.1 (subst (λ (n : ℕ). IsBlockAt IsPoolOf m strict groups n b) (omega arith) at))

  pub AreBlocks-front : (bs : List (Block P)) (b : Block P) (i : ℕ) → AreBlocks IsPoolOf m strict groups i (bs ++ b ∷ []) → AreBlocks IsPoolOf m strict groups i bs
  AreBlocks-front [] b i are = tt
  AreBlocks-front (c ∷ bs) b i are = (are.0, AreBlocks-front bs b (i + c.groups) are.1)

  pub AreBlocks-last : (bs : List (Block P)) (b : Block P) (i : ℕ) → AreBlocks IsPoolOf m strict groups i (bs ++ b ∷ []) → IsBlockAt IsPoolOf m strict groups (i + groups_in (map stretch_of bs)) b
  AreBlocks-last [] b i are = subst (λ (n : ℕ). IsBlockAt IsPoolOf m strict groups n b) (omega arith) are.0
  AreBlocks-last (c ∷ bs) b i are = subst (λ (n : ℕ). IsBlockAt IsPoolOf m strict groups n b) (omega arith) (AreBlocks-last bs b (i + c.groups) are.1)

  pub stretches : (bs : List (Block P)) (i : ℕ) → AreBlocks IsPoolOf m strict groups i bs → AreStretches m (chain_problem groups) strict i (map stretch_of bs)
  stretches [] i are = tt
  stretches (b ∷ bs) i are = (are.0.stretch, stretches bs (i + b.groups) are.1)

  pub Rise-push : (bs : List (Block P)) (b : Block P) → Rise (map stretch_of bs) → ((rest : List (Block P)) (last : Block P) → bs ≡ rest ++ last ∷ [] → Below last.value b.value) → Rise (map stretch_of (bs ++ b ∷ []))
  Rise-push [] b rise h = (tt, tt)
  Rise-push (c ∷ []) b rise h = (h [] c refl, (tt, tt))
  Rise-push (c ∷ (d ∷ bs)) b rise h = (rise.0, Rise-push (d ∷ bs) b rise.1 (λ rest last e. h (c ∷ rest) last (ap (λ (xs : List (Block P)). c ∷ xs) e)))

  pub Rise-front : (bs : List (Block P)) (b : Block P) → Rise (map stretch_of (bs ++ b ∷ [])) → Rise (map stretch_of bs)
  Rise-front [] b rise = tt
  Rise-front (c ∷ []) b rise = (tt, tt)
  Rise-front (c ∷ (d ∷ bs)) b rise = (rise.0, Rise-front (d ∷ bs) b rise.1)

  rise_last : (rest : List (Block P)) (last b : Block P) → Rise (map stretch_of ((rest ++ last ∷ []) ++ b ∷ [])) → Below last.value b.value
  rise_last [] last b rise = rise.0
  rise_last (c ∷ rest) last b rise = rise_last rest last b rise.1

  pub Rise-last : (bs : List (Block P)) (b : Block P) → Rise (map stretch_of (bs ++ b ∷ [])) → (rest : List (Block P)) (last : Block P) → bs ≡ rest ++ last ∷ [] → Below last.value b.value
  Rise-last bs b rise rest last e = rise_last rest last b (subst (λ (xs : List (Block P)). Rise (map stretch_of (xs ++ b ∷ []))) e rise)

  -- The stack covers the places before the block, the block those from there up to the place, and the last block of the stack is at most the block's limit.
  pub record IsAbsorbing (place : ℕ) (stack : List (Block P)) (b : Block P) : Type 0 where
    pub start : ℕ
    pub covers : Covers IsPoolOf m strict groups start stack
    pub at : IsBlockAt IsPoolOf m strict groups start b
    pub ends : start + b.groups ≡ suc place
    pub room : (rest : List (Block P)) (last : Block P) → stack ≡ rest ++ last ∷ [] → AtMost last.value at.stretch.limit

-- Two neighbouring stretches, of which the first has a value at least that of the second, are one stretch at the value that pools them.
absorbed_stretch : (m : Meaning) (s : Problem) (chain : s.pairs ≡ chain_pairs s.count) (law : HasFallingSpans m s) (strict : Bool) (i start : ℕ) (c b : Stretch) (cs : IsStretch m s strict i c) (bs : IsStretch m s strict start b)
    → i + c.groups ≡ start → AtMost b.value c.value → AtMost c.value bs.limit → (t : Fraction) (n : ℕ) → n ≡ c.groups + b.groups
    → IsPooled m s (run i (i + n)) t → IsCost strict (set_sum (run i (i + n)) (greatest_at m s t) s.count) → (st : IsStretch m s strict i (record { value = t; groups = n })) × (st.limit ≡ c.value)
absorbed_stretch m s chain law strict i start c b cs bs next order limit t n total pooled costs = (
  record {
    last = bs.last;
    ends = ends;
    reaches = omega (arith, bs.reaches);
    limit = c.value;
    block = absorbed_run m s chain law strict i cs.last bs.last b.value bs.limit c.value cs.limit t cs.reaches back bs.block.top_below lower cs.block order limit
        (subst (λ (k : ℕ). IsPooled m s (run i k) t) ends pooled) (subst (λ (k : ℕ). IsCost strict (set_sum (run i k) (greatest_at m s t) s.count)) ends costs);
    steep = absorbed_steep m s chain law strict i cs.last bs.last b.value bs.limit c.value cs.limit t cs.reaches back bs.block.top_below lower cs.block order limit
        (subst (λ (k : ℕ). IsSteep m s (run k (suc bs.last)) bs.last bs.limit) seam bs.steep) cs.steep;
  },
  refl,
) where
  ends : i + n ≡ suc bs.last
  ends = omega (arith, bs.ends)

  seam : start ≡ suc cs.last
  seam = omega (arith, cs.ends)

  back : cs.last < bs.last
  back = omega (arith, seam, bs.reaches)

  lower : IsBlock m s strict (run (suc cs.last) (suc bs.last)) bs.last b.value bs.limit
  lower = subst (λ (k : ℕ). IsBlock m s strict (run k (suc bs.last)) bs.last b.value bs.limit) seam bs.block

-- a lone group, with any limit
lone_stretch : (m : Meaning) (s : Problem) (chain : s.pairs ≡ chain_pairs s.count) (strict : Bool) (i : ℕ) (t : Fraction) (n : ℕ) → n ≡ 1 → i < s.count
    → IsPooled m s (run i (i + n)) t → IsCost strict (set_sum (run i (i + n)) (greatest_at m s t) s.count) → (limit : Fraction) → 0 < limit.den → AtMost t limit
    → (st : IsStretch m s strict i (record { value = t; groups = n })) × (st.limit ≡ limit)
lone_stretch m s chain strict i t n one top pooled costs limit den within = (
  record {
    last = i;
    ends = ends;
    reaches = omega arith;
    limit = limit;
    block = lone_run m s chain strict i t limit top (subst (λ (k : ℕ). IsPooled m s (run i k) t) ends pooled) (subst (λ (k : ℕ). IsCost strict (set_sum (run i k) (greatest_at m s t) s.count)) ends costs) den within;
    steep = lone_run_steep m s chain strict i t limit top (subst (λ (k : ℕ). IsPooled m s (run i k) t) ends pooled) (subst (λ (k : ℕ). IsCost strict (set_sum (run i k) (greatest_at m s t) s.count)) ends costs) den within;
  },
  refl,
) where
  ends : i + n ≡ suc i
  ends = omega arith

same_at_most : (c : Fraction) → AtMost c c
same_at_most c = omega (arith, ints)

at_most_below : (c b : Fraction) → Below c b → AtMost c b
at_most_below c b h = omega (arith, ints)

module _ {P : Type 0} (IsPoolOf : P → List Row → Type 0) (m : Meaning) (strict : Bool) (laws : HasLossLaws m strict) (groups : RowLists) (fit : AreFittable (all_rows groups)) (filled : All (λ rows. 0 < length rows) groups) where
  law : HasFallingSpans m (chain_problem groups)
  law = problem_falling m strict laws (chain_problem groups) (groups_fittable groups (chain_pairs (length groups)) _ fit)

  -- The block of a group starts with nothing absorbed.
  pub absorbing_none : (place : ℕ) (stack : List (Block P)) (b : Block P) (rows : List Row) → place < length groups → slice_get groups place ≡ Some rows → Covers IsPoolOf m strict groups place stack
      → IsPoolOf b.pool rows → IsLeastMinimiser m strict rows b.value → b.groups ≡ 1 → IsAbsorbing IsPoolOf m strict groups place stack b
  absorbing_none place stack b rows l e covers pool value one = elim (last_or_none stack) [
    | inl none ↦ with_limit b.value den (same_at_most b.value) (λ rest last at. absurd (not_empty rest last (sym none ∙ at)))
    | inr k ↦ by_lt_z (b.value.num *ℤ pos k.1.value.den) (k.1.value.num *ℤ pos b.value.den)
        (λ below. with_limit k.1.value (AreBlocks-last IsPoolOf m strict groups k.0 k.1 0 (subst (λ (xs : List (Block P)). AreBlocks IsPoolOf m strict groups 0 xs) k.2 covers.blocks)).stretch.block.pooled.den (at_most_below b.value k.1.value below)
        (λ rest last at. subst (λ (x : Block P). AtMost x.value k.1.value) (same_last k.0 rest k.1 last (sym k.2 ∙ at)).1 (same_at_most k.1.value)))
        (λ above. with_limit b.value den (same_at_most b.value)
        (λ rest last at. subst (λ (x : Block P). AtMost x.value b.value) (same_last k.0 rest k.1 last (sym k.2 ∙ at)).1 above))
  ] where
    one_group : b.groups ≡ 1 → rows ≡ rows_in groups place b.groups
    one_group h = sym (ap (λ (n : ℕ). rows_in groups place n) h ∙ rows_in-one groups place rows e)

    least : IsLeastMinimiser m strict (rows_in groups place b.groups) b.value
    least = subst (λ (xs : List Row). IsLeastMinimiser m strict xs b.value) (one_group one) value

    den : 0 < b.value.den
    den = value.den

    with_limit : (limit : Fraction) → 0 < limit.den → AtMost b.value limit → ((rest : List (Block P)) (last : Block P) → stack ≡ rest ++ last ∷ [] → AtMost last.value limit) → IsAbsorbing IsPoolOf m strict groups place stack b
    with_limit limit lden within room =
        let st : (st : IsStretch m (chain_problem groups) strict place (stretch_of b)) × (st.limit ≡ limit) =
        lone_stretch m (chain_problem groups) refl strict place b.value b.groups one l (pooled_in m strict laws groups fit place b.groups (omega arith) b.value least) (costs_in m strict laws groups fit place b.groups (omega arith) b.value least) limit lden within in
        record {
          start = place;
          covers = covers;
          at = record { stretch = st.0; pool = subst (IsPoolOf b.pool) (one_group one) pool };
          ends = omega arith;
          room = λ rest last at. subst (λ (x : Fraction). AtMost last.value x) (sym st.1) (room rest last at);
        }

  module _ (place : ℕ) (rest : List (Block P)) (last b : Block P) (l : place < length groups) (k : IsAbsorbing IsPoolOf m strict groups place (rest ++ last ∷ []) b) where
    first : ℕ
    first = groups_in (map stretch_of rest)

    at_last : IsBlockAt IsPoolOf m strict groups (groups_in (map stretch_of rest)) last
    at_last = subst (λ (n : ℕ). IsBlockAt IsPoolOf m strict groups n last) (omega arith) (AreBlocks-last IsPoolOf m strict groups rest last 0 k.covers.blocks)

    seam : groups_in (map stretch_of rest) + last.groups ≡ k.start
    seam = sym (groups_in-push IsPoolOf m strict groups rest last) ∙ k.covers.all

    both_rows : rows_in groups (groups_in (map stretch_of rest)) (last.groups + b.groups) ≡ rows_in groups (groups_in (map stretch_of rest)) last.groups ++ rows_in groups k.start b.groups
    both_rows = rows_in-add groups (groups_in (map stretch_of rest)) last.groups b.groups ∙ ap (λ (n : ℕ). rows_in groups (groups_in (map stretch_of rest)) last.groups ++ rows_in groups n b.groups) seam

    pub merged_groups : last.groups + b.groups ≤ suc place
    merged_groups = omega (arith, seam, k.ends)

    inside : (n : ℕ) → n ≡ last.groups + b.groups → groups_in (map stretch_of rest) + n ≤ length groups
    inside n e = omega (arith, seam, k.ends)

    fittable : AreFittable (rows_in groups (groups_in (map stretch_of rest)) last.groups ++ rows_in groups k.start b.groups)
    fittable = subst AreFittable both_rows (fittable_in groups (groups_in (map stretch_of rest)) (last.groups + b.groups) fit)

    some : 0 < length (rows_in groups (groups_in (map stretch_of rest)) last.groups ++ rows_in groups k.start b.groups)
    some = subst (λ (xs : List Row). 0 < length xs) both_rows (some_in groups (groups_in (map stretch_of rest)) (last.groups + b.groups) filled (omega (arith, at_last.stretch.ends, at_last.stretch.reaches)) (inside (last.groups + b.groups) refl))

    pub can_merge : CanMerge IsPoolOf last.pool b.pool
    can_merge = record { front = rows_in groups (groups_in (map stretch_of rest)) last.groups; back = rows_in groups k.start b.groups; left_pooled = at_last.pool; right_pooled = k.at.pool; fittable = fittable; some = some }

    -- The block absorbs the last one of the stack.
    pub absorbing_more : (t : Block P) → AtMost b.value last.value → t.groups ≡ last.groups + b.groups
        → ((xs ys : List Row) → IsPoolOf last.pool xs → IsPoolOf b.pool ys → IsPoolOf t.pool (xs ++ ys))
        → ((xs ys : List Row) → IsPoolOf last.pool xs → IsPoolOf b.pool ys → AreFittable (xs ++ ys) → 0 < length (xs ++ ys) → IsLeastMinimiser m strict (xs ++ ys) t.value)
        → IsAbsorbing IsPoolOf m strict groups place rest t
    absorbing_more t order total pool value =
        let rows : rows_in groups (groups_in (map stretch_of rest)) last.groups ++ rows_in groups k.start b.groups ≡ rows_in groups (groups_in (map stretch_of rest)) t.groups = sym (ap (λ (n : ℕ). rows_in groups (groups_in (map stretch_of rest)) n) total ∙ both_rows) in
        let least : IsLeastMinimiser m strict (rows_in groups (groups_in (map stretch_of rest)) t.groups) t.value = subst (λ (xs : List Row). IsLeastMinimiser m strict xs t.value) rows (value _ _ at_last.pool k.at.pool fittable some) in
        let st : (st : IsStretch m (chain_problem groups) strict (groups_in (map stretch_of rest)) (stretch_of t)) × (st.limit ≡ last.value) =
        absorbed_stretch m (chain_problem groups) refl law strict (groups_in (map stretch_of rest)) k.start (stretch_of last) (stretch_of b) at_last.stretch k.at.stretch seam order (k.room rest last refl) t.value t.groups total
        (pooled_in m strict laws groups fit (groups_in (map stretch_of rest)) t.groups (inside t.groups total) t.value least) (costs_in m strict laws groups fit (groups_in (map stretch_of rest)) t.groups (inside t.groups total) t.value least) in
        record {
          start = groups_in (map stretch_of rest);
          covers = record {
            blocks = AreBlocks-front IsPoolOf m strict groups rest last 0 k.covers.blocks;
            rise = Rise-front IsPoolOf m strict groups rest last k.covers.rise;
            all = refl;
          };
          at = record { stretch = st.0; pool = subst (IsPoolOf t.pool) rows (pool _ _ at_last.pool k.at.pool) };
          ends = omega (arith, seam, k.ends);
          room = λ front other at. subst (λ (x : Fraction). AtMost other.value x) (sym st.1) (at_most_below other.value last.value (Rise-last IsPoolOf m strict groups rest last k.covers.rise front other at));
        }

  -- A block that lies above the stack ends it.
  pub absorbing_done : (place : ℕ) (stack : List (Block P)) (b : Block P) → IsAbsorbing IsPoolOf m strict groups place stack b
      → ((rest : List (Block P)) (last : Block P) → stack ≡ rest ++ last ∷ [] → Below last.value b.value) → Covers IsPoolOf m strict groups (place + 1) (stack ++ b ∷ [])
  absorbing_done place stack b k below = record {
    blocks = AreBlocks-push IsPoolOf m strict groups stack b 0 k.covers.blocks (subst (λ (n : ℕ). IsBlockAt IsPoolOf m strict groups n b) (omega (arith, k.covers.all)) k.at);
    rise = Rise-push IsPoolOf m strict groups stack b k.covers.rise below;
    all = omega (arith, groups_in-push IsPoolOf m strict groups stack b, k.covers.all, k.ends);
  }

-- the values of one more block
values_upto : {P : Type 0} (bs : List (Block P)) (k : ℕ) (b : Block P) → slice_get bs k ≡ Some b
    → values_of (map stretch_of (take (suc k) bs)) ≡ values_of (map stretch_of (take k bs)) ++ replicate b.groups b.value
values_upto [] k b e = cc
values_upto {P} (c ∷ bs) zero b e = append-nil (replicate c.groups c.value) ∙ ap (λ (x : Block P). replicate x.groups x.value) (same_Some c b e)
values_upto (c ∷ bs) (suc k) b e =
    ap (λ (xs : List Fraction). replicate c.groups c.value ++ xs) (values_upto bs k b e)
    ∙ sym (append_assoc (replicate c.groups c.value) (values_of (map stretch_of (take k bs))) (replicate b.groups b.value))

pub values_of-more : {P : Type 0} (bs : List (Block P)) (k : ℕ) (b : Block P) → k < length bs → b ≡ get_or bs k b
    → values_of (map stretch_of (take (k + 1) bs)) ≡ values_of (map stretch_of (take k bs)) ++ replicate b.groups b.value
values_of-more bs k b l e = rw (add-one) (values_upto bs k b (slice_get_read bs (length bs) k b refl l e))

-- Blocks that cover all places give the least of the best values, which are settled.
module _ {P : Type 0} (IsPoolOf : P → List Row → Type 0) (m : Meaning) (strict : Bool) (laws : HasLossLaws m strict) (groups : RowLists) (fit : AreFittable (all_rows groups)) (bs : List (Block P))
    (covers : Covers IsPoolOf m strict groups (length groups) bs) where
  pub covers_least_best : LeastBestValues m (chain_problem groups) (values_of (map stretch_of bs))
  covers_least_best = values_least_best m strict laws groups fit (map stretch_of bs) (stretches IsPoolOf m strict groups bs 0 covers.blocks) covers.rise covers.all

  pub covers_settled : IsSettled m (chain_problem groups) (trial_of (values_of (map stretch_of bs)))
  covers_settled = values_settled m strict laws groups fit (map stretch_of bs) (stretches IsPoolOf m strict groups bs 0 covers.blocks) covers.rise covers.all

  pub covers_least_settled : strict ≡ false → IsLeastSettled m (chain_problem groups) (trial_of (values_of (map stretch_of bs)))
  covers_least_settled = values_least_settled m strict laws groups fit (map stretch_of bs) (stretches IsPoolOf m strict groups bs 0 covers.blocks) covers.rise covers.all

pub whole_values : {P : Type 0} (bs xs : List (Block P)) (vs : List Fraction) (k : ℕ) → vs ≡ values_of (map stretch_of (take k xs)) → length xs ≤ k → xs ≡ bs → values_of (map stretch_of bs) ≡ vs
whole_values {P} bs xs vs k e l same = sym (e ∙ ap (λ (ys : List (Block P)). values_of (map stretch_of ys)) (take_all k xs l ∙ same))
