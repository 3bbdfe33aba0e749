-- blocks of trees, whose root is greatest or least: lone groups, absorbed child blocks, and what a fit needs of them
use Rattle.std.proofs.Common.{◌≡◌, ℕ, ◌<◌, refl, sym, ap, subst, ◌∙◌, arith, Bool, true, false, ◌||◌, ◌&&◌, List, length, inl, inr}
use Rattle.std.proofs.lemmas.Int.{ints}
use Rattle.std.proofs.lemmas.Bool.{cases_eq}
use Rattle.std.specs.Prelude.{ℤ, pos, ◌<ℤ◌, All, Option}
use Rattle.ofit_num.specs.Groups.{RowLists}
use Rattle.ofit_num.specs.Problem.{Problem}
use Rattle.ofit_num.specs.Meaning.{Meaning}
use Rattle.ofit_num.specs.Fraction.{Fraction, AtMost}
use Rattle.ofit_num.specs.Below.{Below}
use Rattle.ofit_num.specs.Law.{least_at, greatest_at, HasFallingSpans}
use Rattle.ofit_num.specs.Sets.{set_sum, IsWithin, IsUpperIn, IsLowerIn}
use Rattle.ofit_num.specs.Steep.{IsSteep}
use Rattle.ofit_num.specs.Block.{IsPooled, IsBlock, IsCost}
use Rattle.ofit_num.proofs.Blocks.{absorbed, block_costs, parts_cost, set_sum-equal, below_trans, lower_with_top}
use Rattle.ofit_num.proofs.Parts.{in_part, base_in, child_in, lower_part}
use Rattle.ofit_num.proofs.Pieces.{meet}
use Rattle.ofit_tree.specs.declared.direction.Direction.{Direction}
use Rattle.ofit_tree.specs.declared.direction.Direction.TheVariants.{RootGreatest, RootLeast}
use Rattle.ofit_tree.specs.Entry.{IsInOrder}
use Rattle.ofit_tree.specs.Tree.{tree_problem, IsParent, IsRootedTree}
use Rattle.ofit_num.specs.Level.{IsLevel}
use Rattle.ofit_tree.specs.Level.{IsTreeBlock}
use Rattle.ofit_num.proofs.Falls.{cost_falls, least_at_most_greatest}
use Rattle.ofit_tree.proofs.Pairs.{pair_at, each_pair, one_parent, places, parent_below, child_below, depth, deeper, Hangs, top_highest, climbs_to_top, hangs_together}
use Rattle.ofit_num.proofs.Division.{at_most_trans}
use Rattle.ofit_tree.proofs.LowBlocks.{low_level, low_limit, low_lone, low_absorbed}
use Rattle.ofit_num.proofs.LoneBlocks.{lone_block, lone_steep}

module _ (m : Meaning) (s : Problem) (law : HasFallingSpans m s) (strict : Bool) where
  -- each lower set that has a place would gain by rising from a value below the block's
  great_gains : (piece : ℕ → Bool) (top : ℕ) (value limit : Fraction) → IsBlock m s strict piece top value limit → IsSteep m s piece top limit → (v : Fraction) → 0 < v.den → Below v value
      → (a : ℕ → Bool) → IsWithin s piece a → IsLowerIn s piece a → (g : ℕ) → g < s.count → a g ≡ true → pos 0 <ℤ set_sum a (least_at m s v) s.count
  great_gains piece top value limit block steep v lv below a inside low g l u = go (a top) refl where
    go : (x : Bool) → a top ≡ x → pos 0 <ℤ set_sum a (least_at m s v) s.count
    go true t = subst (λ (z : ℤ). pos 0 <ℤ z) (set_sum-equal piece a (least_at m s v) s.count (lower_with_top m s law strict piece top value limit block a inside low t)) (block.pooled.smaller v lv below)
    go false t = steep.gains v lv (below_trans v value limit lv block.pooled.den block.limit_den below block.within) a inside low t g l u

  great_level : (piece : ℕ → Bool) (top : ℕ) (value limit : Fraction) → IsBlock m s strict piece top value limit → IsSteep m s piece top limit → IsLevel m s strict piece value
  great_level piece top value limit block steep = record {
    den = block.pooled.den;
    raised = block.raised;
    costs = block_costs m s law strict piece top value limit block;
    gains = λ v lv below a inside low g l u. omega (arith, ints, great_gains piece top value limit block steep v lv below a inside low g l u, least_at_most_greatest m s law a v lv);
  }

  -- the limit may fall down to the value
  great_limit : (piece : ℕ → Bool) (top : ℕ) (value limit c : Fraction) → IsBlock m s strict piece top value limit → 0 < c.den → AtMost value c → AtMost c limit → IsBlock m s strict piece top value c
  great_limit piece top value limit c block lc within falls = record {
    top_below = block.top_below;
    top_in = block.top_in;
    reaches = block.reaches;
    pooled = block.pooled;
    pooled_costs = block.pooled_costs;
    limit_den = lc;
    within = within;
    raised = block.raised;
    costs = λ b inside low out g l u. cost_falls m s law strict b c limit lc block.limit_den falls (block.costs b inside low out g l u);
  }

  steep_limit : (piece : ℕ → Bool) (top : ℕ) (limit c : Fraction) → 0 < limit.den → IsSteep m s piece top limit → 0 < c.den → AtMost c limit → IsSteep m s piece top c
  steep_limit piece top limit c ll steep lc falls = record { gains = λ b lb below a inside low out g l u. steep.gains b lb (below_trans b c limit lb lc ll below falls) a inside low out g l u }

-- the same for both directions
pub in_order_trans : (d : Direction) (a b c : Fraction) → 0 < a.den → 0 < b.den → 0 < c.den → IsInOrder d a b → IsInOrder d b c → IsInOrder d a c
in_order_trans RootGreatest a b c la lb lc h k = at_most_trans a b c la lb lc h k
in_order_trans RootLeast a b c la lb lc h k = at_most_trans c b a lc lb la k h

pub in_order_same : (d : Direction) (a : Fraction) → IsInOrder d a a
in_order_same RootGreatest a = omega (arith, ints)
in_order_same RootLeast a = omega (arith, ints)

module _ (m : Meaning) (s : Problem) (law : HasFallingSpans m s) (strict : Bool) where
  pub tree_level : (d : Direction) (piece : ℕ → Bool) (top : ℕ) (value limit : Fraction) → IsTreeBlock d m s strict piece top value limit → IsLevel m s strict piece value
  tree_level RootGreatest piece top value limit block = great_level m s law strict piece top value limit block.0 block.1
  tree_level RootLeast piece top value limit block = low_level m s law strict piece top value limit block

  pub tree_limit : (d : Direction) (piece : ℕ → Bool) (top : ℕ) (value limit c : Fraction) → IsTreeBlock d m s strict piece top value limit → 0 < c.den → IsInOrder d value c → IsInOrder d c limit → IsTreeBlock d m s strict piece top value c
  tree_limit RootGreatest piece top value limit c block lc within falls = (great_limit m s law strict piece top value limit c block.0 lc within falls, steep_limit m s law strict piece top limit c block.0.limit_den block.1 lc falls)
  tree_limit RootLeast piece top value limit c block lc within rises = low_limit m s law strict piece top value limit c block lc rises within

  pub tree_lone : (d : Direction) (piece : ℕ → Bool) (top : ℕ) (value limit : Fraction) → top < s.count → piece top ≡ true → ((g : ℕ) → g < s.count → piece g ≡ true → g ≡ top) → IsPooled m s piece value
      → IsCost strict (set_sum piece (greatest_at m s value) s.count) → 0 < limit.den → IsInOrder d value limit → IsTreeBlock d m s strict piece top value limit
  tree_lone RootGreatest piece top value limit below top_in alone pooled pooled_costs lden within =
      (lone_block m s strict piece top value limit below top_in alone pooled pooled_costs lden within, lone_steep m s strict piece top value limit below top_in alone pooled pooled_costs lden within)
  tree_lone RootLeast piece top value limit below top_in alone pooled pooled_costs lden within = low_lone m s law strict piece top value limit below top_in alone pooled pooled_costs lden within

pub tree_den : (d : Direction) (m : Meaning) (s : Problem) (strict : Bool) (piece : ℕ → Bool) (top : ℕ) (value limit : Fraction) → IsTreeBlock d m s strict piece top value limit → 0 < value.den
tree_den RootGreatest m s strict piece top value limit block = block.0.pooled.den
tree_den RootLeast m s strict piece top value limit block = block.pooled.den

pub tree_top : (d : Direction) (m : Meaning) (s : Problem) (strict : Bool) (piece : ℕ → Bool) (top : ℕ) (value limit : Fraction) → IsTreeBlock d m s strict piece top value limit → (top < s.count) × (piece top ≡ true)
tree_top RootGreatest m s strict piece top value limit block = (block.0.top_below, block.0.top_in)
tree_top RootLeast m s strict piece top value limit block = (block.top_below, block.top_in)

pub tree_within : (d : Direction) (m : Meaning) (s : Problem) (strict : Bool) (piece : ℕ → Bool) (top : ℕ) (value limit : Fraction) → IsTreeBlock d m s strict piece top value limit → IsInOrder d value limit
tree_within RootGreatest m s strict piece top value limit block = block.0.within
tree_within RootLeast m s strict piece top value limit block = block.within

-- A block absorbs a child block that breaks the order.
module _ (m : Meaning) (strict : Bool) (groups : RowLists) (parents : List (Option ℕ)) (tree : IsRootedTree parents) (count : length parents ≡ length groups)
    (piece base child : ℕ → Bool) (top leaf p : ℕ) (b be c ce t : Fraction) (parts : (g : ℕ) → g < length groups → piece g ≡ (base g || child g)) (apart : (g : ℕ) → g < length groups → base g ≡ true → child g ≡ false)
    (hb : Hangs parents tree base top) (hc : Hangs parents tree child leaf) (up : IsParent parents leaf p) (under : base p ≡ true) where
  here : (g : ℕ) → g < length parents → g < length groups
  here g l = omega (arith, l, count)

  there : (g : ℕ) → g < length groups → g < length parents
  there g l = omega (arith, l, count)

  hangs : Hangs parents tree piece top
  hangs = hangs_together parents tree piece base child top leaf p (λ g l. parts g (here g l)) hb hc up under

  all_places : (d : Direction) → All (λ e. (e.0 < length groups) × (e.1 < length groups)) (tree_problem d groups parents).pairs
  all_places d = subst (λ (n : ℕ). All (λ e. (e.0 < n) × (e.1 < n)) (tree_problem d groups parents).pairs) count (places parents tree d)

  -- the parent of the top is not in the child block
  top_apart : (q : ℕ) → IsParent parents top q → base top ≡ true → child q ≡ true → child leaf ≡ true → ⊥
  top_apart q e tb uq lf = omega (
    arith,
    deeper parents tree top q e,
    deeper parents tree leaf p up,
    top_highest parents tree base top hb (depth parents tree p) p (omega arith) (parent_below parents tree leaf p up) under,
    top_highest parents tree child leaf hc (depth parents tree q) q (omega arith) (parent_below parents tree top q e) uq,
  )

  base_upper : base top ≡ true → child leaf ≡ true → IsUpperIn (tree_problem RootGreatest groups parents) piece base
  base_upper tb lf = each_pair (λ e. piece e.0 ≡ true → piece e.1 ≡ true → base e.0 ≡ true → base e.1 ≡ true) RootGreatest parents (λ g q e low high u. elim (cases_eq g top) [
    | inl same ↦ go q (subst (λ (x : ℕ). IsParent parents x q) same e) (base q) (child q) refl refl (sym (parts q (here q (parent_below parents tree g q e))) ∙ high)
    | inr away ↦
        let k : (r : ℕ) × IsParent parents g r × (base r ≡ true) = hb g (child_below parents tree g q e) u away in
        subst (λ (x : ℕ). base x ≡ true) (one_parent parents g k.0 q k.1 e) k.2
  ]) where
    go : (q : ℕ) → IsParent parents top q → (x y : Bool) → base q ≡ x → child q ≡ y → (x || y) ≡ true → x ≡ true
    go q e true y f h k = refl
    go q e false true f h k = absurd (top_apart q e tb h lf)
    go q e false false f h k = cc

  up_to_top : (d : Direction) (a : ℕ → Bool) → ((g q : ℕ) → IsParent parents g q → piece g ≡ true → piece q ≡ true → a g ≡ true → a q ≡ true) → IsWithin (tree_problem d groups parents) piece a → (g : ℕ) → g < length groups → a g ≡ true → a top ≡ true
  up_to_top d a closed inside g l u = climbs_to_top parents tree piece a top hangs closed (depth parents tree g) g (omega arith) (there g l) (inside.each g l u) u

  absorbed_steep : HasFallingSpans m (tree_problem RootGreatest groups parents) → IsTreeBlock RootGreatest m (tree_problem RootGreatest groups parents) strict base top b be → IsTreeBlock RootGreatest m (tree_problem RootGreatest groups parents) strict child leaf c ce
      → AtMost c be → IsSteep m (tree_problem RootGreatest groups parents) piece top c
  absorbed_steep law lower upper limit = record {
    gains = λ v lv below a inside low out. parts_cost false (length groups) piece base child a (least_at m (tree_problem RootGreatest groups parents) v) parts apart inside.each
        (λ h lh k. lower.1.gains v lv (below_trans v c be lv upper.0.pooled.den lower.0.limit_den below limit) (meet a base) (in_part (tree_problem RootGreatest groups parents) base a)
        (lower_part (tree_problem RootGreatest groups parents) (all_places RootGreatest) piece base a (base_in (length groups) piece base child parts) low) (ap (λ (x : Bool). x && base top) out) h lh k)
        (λ h lh k. great_gains m (tree_problem RootGreatest groups parents) law strict child leaf c ce upper.0 upper.1 v lv below (meet a child) (in_part (tree_problem RootGreatest groups parents) child a)
        (lower_part (tree_problem RootGreatest groups parents) (all_places RootGreatest) piece child a (child_in (length groups) piece base child parts) low) h lh k);
  }

  pub tree_absorbed : (d : Direction) → HasFallingSpans m (tree_problem d groups parents) → IsTreeBlock d m (tree_problem d groups parents) strict base top b be → IsTreeBlock d m (tree_problem d groups parents) strict child leaf c ce
      → IsInOrder d b c → IsInOrder d c be → IsPooled m (tree_problem d groups parents) piece t → IsCost strict (set_sum piece (greatest_at m (tree_problem d groups parents) t) (length groups)) → IsTreeBlock d m (tree_problem d groups parents) strict piece top t c
  tree_absorbed RootGreatest law lower upper order limit pooled pooled_costs = (
    absorbed m (tree_problem RootGreatest groups parents) law strict piece base child top leaf b be c ce t
        (record { closed = base_upper lower.0.top_in upper.0.top_in; parts = parts; apart = apart }) (all_places RootGreatest) lower.0 upper.0 order limit
        (λ a inside closed g l u. up_to_top RootGreatest a (λ h q e low high k. pair_at (λ e. piece e.0 ≡ true → piece e.1 ≡ true → a e.0 ≡ true → a e.1 ≡ true) RootGreatest parents closed h q e low high k) inside g l u)
        pooled pooled_costs,
    absorbed_steep law lower upper limit,
  )
  tree_absorbed RootLeast law lower upper order limit pooled pooled_costs =
      low_absorbed m (tree_problem RootLeast groups parents) law strict piece base child top leaf b be c ce t (all_places RootLeast) parts apart lower upper order limit
      (λ a inside closed g l u. up_to_top RootLeast a (λ h q e low high k. pair_at (λ e. piece e.0 ≡ true → piece e.1 ≡ true → a e.1 ≡ true → a e.0 ≡ true) RootLeast parents closed h q e high low k) inside g l u)
      pooled pooled_costs
