-- The groups of a tree with their parents make the component's part.
use Rattle.std.proofs.Common.{◌≡◌, ◌≢◌, ℕ, suc, ◌<◌, ◌⊎◌, refl, sym, ap, subst, ◌∙◌, arith, inl, inr, List, [], ◌∷◌, length, map, slice_index, ◌↔◌}
use Rattle.std.proofs.lemmas.Bool.{cases_order}
use Rattle.std.proofs.lemmas.List.{get_or-map, length-map}
use Rattle.std.proofs.lemmas.List.Elements.{All-contains, All-contains_itself}
use Rattle.std.proofs.lemmas.Option.{unwrap_or-slice_get, slice_get-get_or, slice_get_within, get_or_from_slice_get}
use Rattle.std.specs.Prelude.{slice_get, Some, None, Option}
use Rattle.std.specs.List.{Contains}
use Rattle.ofit_num.specs.Problem.{Problem}
use Rattle.ofit_num.specs.Unbounded.{no_bounds}
use Rattle.ofit_num.specs.Meaning.{Meaning}
use Rattle.ofit_num.specs.Fraction.{Fraction}
use Rattle.ofit_num.specs.Fit.{LeastBestValues}
use Rattle.ofit_num.specs.Law.{HasScaling}
use Rattle.ofit_order.specs.Connection.{LeadsUp, IsWalkBy}
use Rattle.ofit_order.specs.Shape.{LeadsDown, LeadsOnce, RunsTo}
use Rattle.ofit_tree.specs.declared.direction.Direction.{Direction}
use Rattle.ofit_tree.specs.declared.direction.Direction.TheVariants.{RootGreatest, RootLeast}
use Rattle.ofit_tree.specs.Tree.{pair_of, tree_pairs, tree_problem, IsParent, Climbs, IsRootedTree}
use Rattle.ofit_tree.proofs.Pairs.{pair_at, each_pair}
use Rattle.ofit_fit.specs.Part.{pairs_by_position, part_of}
use Rattle.ofit_fit.specs.Links.{IsLink, AreLinks, link_at}
use Rattle.ofit_fit.specs.Direct.{Leads}
use Rattle.ofit_fit.proofs.Places.{HasPlace, IsDistinct}
use Rattle.ofit_fit.proofs.Parts.{IsPart, part_scaling}
use Rattle.ofit_fit.proofs.Closed.{IsClosed, place_from_contains, contains_from_place, by_position_kept, by_position_all, part_of-IsPart}
use Rattle.ofit_fit.proofs.ChainParts.{values_back}

-- a link is what the list has at its index
read_link : (links : List (Option ℕ)) (i : ℕ) (o : Option ℕ) → slice_get links i ≡ Some o → link_at links i ≡ o
read_link links i o e = get_or_from_slice_get links i o None e

have_link : (links : List (Option ℕ)) (i : ℕ) (o : Option ℕ) → i < length links → link_at links i ≡ o → slice_get links i ≡ Some o
have_link links i o l e = slice_get-get_or links i None l ∙ ap (λ (x : Option ℕ). Some x) e

module _ (Step : ℕ → ℕ → Type 0) (members : List ℕ) (links : List (Option ℕ)) (are : AreLinks Step members links) (distinct : IsDistinct (slice_index members) (length members)) (end : ℕ) (runs : RunsTo Step members end) where
  member : (i : ℕ) → i < length members → Contains members (slice_index members i)
  member i l = contains_from_place members (slice_index members i) (i, l, refl)

  -- where a step leads on from a place, the place is not the end
  not_end : (a b : ℕ) → Step a b → a ≢ end
  not_end a b h e = runs.last b (subst (λ (x : ℕ). Step x b) e h)

  one_step : (a b c : ℕ) → Contains members a → Step a b → Step a c → b ≡ c
  one_step a b c m h k =
      let one : LeadsOnce Step a = runs.others a m (not_end a b h) in
      one.only b h ∙ sym (one.only c k)

  -- the parent of a place is the member that the step leads to
  pub parent_step : (i p : ℕ) → i < length members → IsParent links i p → (p < length members) × Step (slice_index members i) (slice_index members p)
  parent_step i p l e = subst (IsLink Step members (slice_index members i)) (read_link links i (Some p) e) (are.each i l)

  pub step_parent : (i j : ℕ) → i < length members → j < length members → Step (slice_index members i) (slice_index members j) → IsParent links i j
  step_parent i j l m h = go (link_at links i) refl (are.each i l) where
    go : (o : Option ℕ) → link_at links i ≡ o → IsLink Step members (slice_index members i) o → slice_get links i ≡ Some (Some j)
    go None e none = absurd (none (slice_index members j) h)
    go (Some k) e to =
        let same : k ≡ j = distinct k j to.0 m (one_step (slice_index members i) (slice_index members k) (slice_index members j) (member i l) to.1 h) in
        have_link links i (Some j) (omega (arith, are.count, l)) (e ∙ ap (λ (n : ℕ). Some n) same)

  root : HasPlace (slice_index members) (length members) end
  root = place_from_contains members end runs.member

  free : (i : ℕ) → i < length members → slice_index members i ≡ end → link_at links i ≡ None
  free i l e = go (link_at links i) (are.each i l) where
    go : (o : Option ℕ) → IsLink Step members (slice_index members i) o → o ≡ None
    go None h = refl
    go (Some j) h = absurd (runs.last (slice_index members j) (subst (λ (x : ℕ). Step x (slice_index members j)) e h.1))

  within : (g : ℕ) (o : Option ℕ) → slice_get links g ≡ Some o → g < length members
  within g o e =
      let l : g < length links = slice_get_within links g o e in
      omega (arith, are.count, l)

  -- the end alone has no parent
  only_end : (g : ℕ) → slice_get links g ≡ Some None → slice_index members g ≡ end
  only_end g e = go (cases_order (slice_index members g) end) where
    none : (b : ℕ) → Step (slice_index members g) b → ⊥
    none = subst (IsLink Step members (slice_index members g)) (read_link links g None e) (are.each g (within g None e))

    other : slice_index members g ≢ end → ⊥
    other d =
        let one : LeadsOnce Step (slice_index members g) = runs.others (slice_index members g) (member g (within g None e)) d in
        none one.next one.leads

    go : (slice_index members g ≡ end) ⊎ ((slice_index members g < end) ⊎ (end < slice_index members g)) → slice_index members g ≡ end
    go (inl same) = same
    go (inr (inl b)) = absurd (other (λ f. absurd (omega (arith, f, b))))
    go (inr (inr b)) = absurd (other (λ f. absurd (omega (arith, f, b))))

  -- a walk of steps to the end climbs by parents
  climb : (walk : List ℕ) (g : ℕ) → g < length members → IsWalkBy Step (slice_index members g) walk end → (n : ℕ) × Climbs links n g root.0
  unfolding root
  climb [] g l h = (0, distinct g (place_from_contains members end runs.member).0 l (place_from_contains members end runs.member).1 (h ∙ sym (place_from_contains members end runs.member).2))
  climb (c ∷ walk) g l h = up (link_at links g) refl (are.each g l) (λ p b w. climb walk p b w) where
    up : (o : Option ℕ) → link_at links g ≡ o → IsLink Step members (slice_index members g) o → ((p : ℕ) → p < length members → IsWalkBy Step (slice_index members p) walk end → (n : ℕ) × Climbs links n p root.0) → (n : ℕ) × Climbs links n g root.0
    up None e none more = absurd (none c h.0)
    up (Some p) e to more =
        let same : slice_index members p ≡ c = one_step (slice_index members g) (slice_index members p) c (member g l) to.1 h.0 in
        let rest : (n : ℕ) × Climbs links n p root.0 = more p to.0 (subst (λ (x : ℕ). IsWalkBy Step x walk end) (sym same) h.1) in
        (suc rest.0, (p, have_link links g (Some p) (omega (arith, are.count, l)) e, rest.1))

  pub rooted : IsRootedTree links
  unfolding root
  rooted = record {
    root = root.0;
    at_root = have_link links root.0 None (omega (arith, are.count, root.1)) (free root.0 root.1 root.2);
    only = λ g e. distinct g root.0 (within g None e) root.1 (only_end g e ∙ sym root.2);
    places = λ g p e. omega (arith, are.count, (parent_step g p (within g (Some p) e) e).0);
    reached = λ g l. let b : g < length members = omega (arith, are.count, l) in climb (runs.reached (slice_index members g) (member g b)).walk g b (runs.reached (slice_index members g) (member g b)).steps;
  }

-- a pair of the tree is one of the part, and the other way round
tree_pair : (d : Direction) (pairs : List (ℕ × ℕ)) (members : List ℕ) (links : List (Option ℕ)) → AreLinks (Leads d pairs) members links → (g p : ℕ) → g < length members → p < length members → Leads d pairs (slice_index members g) (slice_index members p)
    → Contains pairs (slice_index members (pair_of d g p).0, slice_index members (pair_of d g p).1)
tree_pair RootGreatest pairs members links are g p l m h = h
tree_pair RootLeast pairs members links are g p l m h = h

place_pair : (d : Direction) (members : List ℕ) (g p : ℕ) → g < length members → p < length members → ((pair_of d g p).0 < length members) × ((pair_of d g p).1 < length members)
place_pair RootGreatest members g p l m = (l, m)
place_pair RootLeast members g p l m = (m, l)

pair_tree : (d : Direction) (pairs : List (ℕ × ℕ)) (members : List ℕ) (links : List (Option ℕ)) → AreLinks (Leads d pairs) members links → IsDistinct (slice_index members) (length members) → (end : ℕ) → RunsTo (Leads d pairs) members end
    → (i j : ℕ) → i < length members → j < length members → Contains pairs (slice_index members i, slice_index members j) → Contains (tree_pairs d links) (i, j)
pair_tree RootGreatest pairs members links are distinct end runs i j l m h =
    pair_at (Contains (tree_pairs RootGreatest links)) RootGreatest links (All-contains_itself (tree_pairs RootGreatest links)) i j (step_parent (LeadsUp pairs) members links are distinct end runs i j l m h)
pair_tree RootLeast pairs members links are distinct end runs i j l m h =
    pair_at (Contains (tree_pairs RootLeast links)) RootLeast links (All-contains_itself (tree_pairs RootLeast links)) j i (step_parent (LeadsDown pairs) members links are distinct end runs j i m l h)

module _ (s : Problem) (free : (g : ℕ) → s.bounds g ≡ no_bounds g) (pairs : List (ℕ × ℕ)) (same_pairs : (e : ℕ × ℕ) → Contains pairs e ↔ Contains s.pairs e) (members : List ℕ) (closed : IsClosed s members)
    (d : Direction) (links : List (Option ℕ)) (are : AreLinks (Leads d pairs) members links) (end : ℕ) (runs : RunsTo (Leads d pairs) members end) where
  parent_of : (g p : ℕ) → IsParent links g p → (g < length members) × (p < length members) × Leads d pairs (slice_index members g) (slice_index members p)
  parent_of g p e =
      let l : g < length links = slice_get_within links g (Some p) e in
      let b : g < length members = omega (arith, are.count, l) in
      let h : (p < length members) × Leads d pairs (slice_index members g) (slice_index members p) = parent_step (Leads d pairs) members links are closed.distinct end runs g p b e in
      (b, h.0, h.1)

  tree_part : IsPart (part_of s members) (tree_problem d (map s.rows members) links) (λ i. i)
  tree_part =
      let n : length (map s.rows members) ≡ length members = length-map members s.rows in
      record {
        inside = λ i l. omega (arith, l, n);
        distinct = λ i j l m e. e;
        rows = λ i l. unwrap_or-slice_get (map s.rows members) i [] ∙ get_or-map s.rows members i 0 [] (omega (arith, l, n));
        bounds = λ i l. sym (free (slice_index members i));
        places = each_pair (λ (e : ℕ × ℕ). (e.0 < length (map s.rows members)) × (e.1 < length (map s.rows members))) d links
            (λ g p e. let h : (g < length members) × (p < length members) × Leads d pairs (slice_index members g) (slice_index members p) = parent_of g p e in both g p (place_pair d members g p h.0 h.1));
        kept = λ i j h. All-contains (Contains (pairs_by_position s.pairs members)) (tree_pairs d links) (i, j) (each_pair (Contains (pairs_by_position s.pairs members)) d links (λ g p e. kept g p (parent_of g p e))) h;
        all = λ i j l m h. pair_tree d pairs members links are closed.distinct end runs i j (omega (arith, l, n)) (omega (arith, m, n)) ((same_pairs _).1 (by_position_kept s.pairs members closed.distinct closed.up i j h).2);
        up = λ a b h x. (b, omega (arith, n, (by_position_kept s.pairs members closed.distinct closed.up a b h).1), refl);
        down = λ a b h x. (a, omega (arith, n, (by_position_kept s.pairs members closed.distinct closed.up a b h).0), refl);
      }
    where
      both : (g p : ℕ) → ((pair_of d g p).0 < length members) × ((pair_of d g p).1 < length members) → ((pair_of d g p).0 < length (map s.rows members)) × ((pair_of d g p).1 < length (map s.rows members))
      both g p h = (omega (arith, h.0, length-map members s.rows), omega (arith, h.1, length-map members s.rows))

      kept : (g p : ℕ) → (g < length members) × (p < length members) × Leads d pairs (slice_index members g) (slice_index members p) → Contains (pairs_by_position s.pairs members) (pair_of d g p)
      kept g p h =
          let inside : ((pair_of d g p).0 < length members) × ((pair_of d g p).1 < length members) = place_pair d members g p h.0 h.1 in
          by_position_all s.pairs members closed.distinct closed.up (pair_of d g p).0 (pair_of d g p).1 inside.0 inside.1 ((same_pairs _).0 (tree_pair d pairs members links are g p h.0 h.1 h.2))

  -- What is least best for the tree is so for the part.
  pub treed : (m : Meaning) → HasScaling m s → (values : List Fraction) → LeastBestValues m (tree_problem d (map s.rows members) links) values → LeastBestValues m (part_of s members) values
  treed m law values low =
      let n : length (map s.rows members) ≡ length members = length-map members s.rows in
      values_back m (part_of s members) (tree_problem d (map s.rows members) links) (λ i. i) (part_of-IsPart s members closed).places
      (part_scaling s (part_of s members) (slice_index members) (part_of-IsPart s members closed) m law) tree_part (λ g l. (g, omega (arith, l, n), refl))
      values values (low.count ∙ n) (record { count = low.count; same = λ i l. refl }) low
