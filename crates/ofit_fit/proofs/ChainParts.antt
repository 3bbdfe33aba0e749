-- The groups of a chain in its order make the component's part.
use Rattle.std.proofs.Common.{◌≡◌, ℕ, suc, ◌+◌, ◌<◌, refl, sym, ap, subst, ◌∙◌, arith, List, [], length, map, slice_index, ◌↔◌}
use Rattle.std.proofs.lemmas.List.{get_or-map, length-map}
use Rattle.std.proofs.lemmas.List.Elements.{All-contains, All-contains_itself}
use Rattle.std.proofs.lemmas.Option.{unwrap_or-slice_get}
use Rattle.std.specs.Prelude.{slice_get, unwrap_or}
use Rattle.std.specs.List.{Contains}
use Rattle.ofit_num.specs.Problem.{Problem}
use Rattle.ofit_num.specs.ProblemPairs.{HasPlaces}
use Rattle.ofit_num.specs.Unbounded.{no_bounds}
use Rattle.ofit_num.specs.Meaning.{Meaning}
use Rattle.ofit_num.specs.Fraction.{Fraction}
use Rattle.ofit_num.specs.Fit.{LeastBestValues}
use Rattle.ofit_num.specs.Law.{HasScaling}
use Rattle.ofit_order.specs.Connection.{LeadsUp}
use Rattle.ofit_order.specs.Shape.{IsChainOf}
use Rattle.ofit_chain.specs.Chain.{chain_pairs, chain_problem}
use Rattle.ofit_chain.proofs.Runs.{pair_at, each_pair}
use Rattle.ofit_fit.specs.Part.{position_among, pairs_by_position, part_of}
use Rattle.ofit_fit.proofs.Places.{HasPlace, IsDistinct}
use Rattle.ofit_fit.proofs.Parts.{IsPart}
use Rattle.ofit_fit.proofs.Up.{AreParts}
use Rattle.ofit_fit.proofs.Closed.{place_from_contains, contains_from_place, position_at, by_position_kept, by_position_all}
use Rattle.ofit_fit.proofs.Picked.{Picks, values_up}
use Rattle.ofit_fit.proofs.ChainPaths.{once, position_back, position_below, leads_next, leads_only}

-- A part that has all places is the only one.
pub only_part : (s p : Problem) (at : ℕ → ℕ) → IsPart s p at → ((g : ℕ) → g < s.count → HasPlace at p.count g) → AreParts s 1 (λ k. p) (λ k. at)
only_part s p at part all = record {
  each = λ k l. part;
  cover = λ g l. record { part = 0; below = omega arith; place = all g l };
  apart = λ j k g l b x y. omega (arith, l, b);
}

-- What is least best for the part that has all places is so for the problem.
pub values_back : (m : Meaning) (s p : Problem) (at : ℕ → ℕ) → HasPlaces s → HasScaling m s → IsPart s p at → ((g : ℕ) → g < s.count → HasPlace at p.count g) → (values picked : List Fraction) → length values ≡ s.count
    → Picks values picked at p.count → LeastBestValues m p picked → LeastBestValues m s values
values_back m s p at places law part all values picked count picks low =
    values_up m s places law 1 (λ k. p) (λ k. at) (only_part s p at part all) values count (λ k. picked) (λ k l. picks) (λ k l. low)

chain_has : (n k : ℕ) → k + 1 < n → Contains (chain_pairs n) (k, k + 1)
chain_has n k l = subst (λ (j : ℕ). Contains (chain_pairs n) (k, j)) (next k) (pair_at (Contains (chain_pairs n)) n (All-contains_itself (chain_pairs n)) k (omega (arith, l))) where
  next : (k : ℕ) → suc k ≡ k + 1
  next k = omega arith

chain_only : (n i j : ℕ) → Contains (chain_pairs n) (i, j) → (j ≡ i + 1) × (i + 1 < n)
chain_only n i j h = All-contains (λ (e : ℕ × ℕ). (e.1 ≡ e.0 + 1) × (e.0 + 1 < n)) (chain_pairs n) (i, j) (each_pair (λ (e : ℕ × ℕ). (e.1 ≡ e.0 + 1) × (e.0 + 1 < n)) n (λ k l. (omega arith, omega (arith, l)))) h

module _ (s : Problem) (free : (g : ℕ) → s.bounds g ≡ no_bounds g) (pairs : List (ℕ × ℕ)) (same_pairs : (e : ℕ × ℕ) → Contains pairs e ↔ Contains s.pairs e) (members list : List ℕ)
    (distinct : IsDistinct (slice_index members) (length members)) (up : (a b : ℕ) → LeadsUp pairs a b → Contains members a → Contains members b) (chain : IsChainOf pairs members list) where
  also_up : (a b : ℕ) → Contains s.pairs (a, b) → Contains members a → Contains members b
  also_up a b h c = up a b ((same_pairs (a, b)).1 h) c

  -- each position is that of a place of the list
  pub all_in : (g : ℕ) → g < length members → HasPlace (λ i. position_among members (slice_index list i)) (length list) g
  all_in g l =
      let x : HasPlace (slice_index list) (length list) (slice_index members g) = place_from_contains list (slice_index members g) ((chain.same (slice_index members g)).1 (contains_from_place members (slice_index members g) (g, l, refl))) in
      (x.0, x.1, ap (position_among members) x.2 ∙ position_at members distinct (slice_index members g) (g, l, refl))

  pub chain_part : IsPart (part_of s members) (chain_problem (map s.rows list)) (λ i. position_among members (slice_index list i))
  chain_part =
      let n : length (map s.rows list) ≡ length list = length-map list s.rows in
      record {
        inside = λ i l. position_below pairs members list distinct chain i (omega (arith, l, n));
        distinct = λ i j l m e.
            once pairs members list distinct chain i j (omega (arith, l, n)) (omega (arith, m, n)) (sym (position_back pairs members list distinct chain i (omega (arith, l, n))) ∙ ap (slice_index members) e ∙ position_back pairs members list distinct chain j (omega (arith, m, n)));
        rows = λ i l. row i (omega (arith, l, n)) ∙ ap s.rows (sym (position_back pairs members list distinct chain i (omega (arith, l, n))));
        bounds = λ i l. sym (free (slice_index members (position_among members (slice_index list i))));
        places = each_pair (λ (e : ℕ × ℕ). (e.0 < length (map s.rows list)) × (e.1 < length (map s.rows list))) (length (map s.rows list)) (λ k l. (omega (arith, l), omega (arith, l)));
        kept = λ i j h.
            let c : (j ≡ i + 1) × (i + 1 < length (map s.rows list)) = chain_only (length (map s.rows list)) i j h in
            kept i j c.0 (omega (arith, c.1, n));
        all = λ i j l m h. all i j (omega (arith, l, n)) (omega (arith, m, n)) h;
        up = λ a b h x. on_to b (by_position_kept s.pairs members distinct also_up a b h).1;
        down = λ a b h x. on_to a (by_position_kept s.pairs members distinct also_up a b h).0;
      }
    where
      row : (i : ℕ) → i < length list → unwrap_or (slice_get (map s.rows list) i) [] ≡ s.rows (slice_index list i)
      row i l = unwrap_or-slice_get (map s.rows list) i [] ∙ get_or-map s.rows list i 0 [] l

      kept : (i j : ℕ) → j ≡ i + 1 → i + 1 < length list → Contains (pairs_by_position s.pairs members) (position_among members (slice_index list i), position_among members (slice_index list j))
      kept i j e l =
          let pair : Contains s.pairs (slice_index list i, slice_index list j) =
          (same_pairs _).0 (subst (λ (k : ℕ). Contains pairs (slice_index list i, slice_index list k)) (sym e) (leads_next pairs members list distinct chain i l)) in
          by_position_all s.pairs members distinct also_up _ _ (position_below pairs members list distinct chain i (omega (arith, l))) (position_below pairs members list distinct chain j (omega (arith, l, e)))
          (subst (λ (a : ℕ). Contains s.pairs (a, slice_index members (position_among members (slice_index list j)))) (sym (position_back pairs members list distinct chain i (omega (arith, l))))
          (subst (λ (b : ℕ). Contains s.pairs (slice_index list i, b)) (sym (position_back pairs members list distinct chain j (omega (arith, l, e)))) pair))

      all : (i j : ℕ) → i < length list → j < length list → Contains (pairs_by_position s.pairs members) (position_among members (slice_index list i), position_among members (slice_index list j)) → Contains (chain_pairs (length (map s.rows list))) (i, j)
      all i j l m h =
          let by_places : Contains s.pairs (slice_index members (position_among members (slice_index list i)), slice_index members (position_among members (slice_index list j))) = (by_position_kept s.pairs members distinct also_up _ _ h).2 in
          let pair : Contains s.pairs (slice_index list i, slice_index list j) =
          subst (λ (a : ℕ). Contains s.pairs (a, slice_index list j)) (position_back pairs members list distinct chain i l)
          (subst (λ (b : ℕ). Contains s.pairs (slice_index members (position_among members (slice_index list i)), b)) (position_back pairs members list distinct chain j m) by_places) in
          let only : (i + 1 < length list) × (slice_index list (i + 1) ≡ slice_index list j) = leads_only pairs members list distinct chain i (slice_index list j) l ((same_pairs _).1 pair) in
          let next : i + 1 ≡ j = once pairs members list distinct chain (i + 1) j only.0 m only.1 in
          subst (λ (k : ℕ). Contains (chain_pairs (length (map s.rows list))) (i, k)) next (chain_has (length (map s.rows list)) i (omega (arith, only.0, length-map list s.rows)))

      on_to : (g : ℕ) → g < length members → HasPlace (λ i. position_among members (slice_index list i)) (length (map s.rows list)) g
      on_to g l =
          let x : HasPlace (λ i. position_among members (slice_index list i)) (length list) g = all_in g l in
          (x.0, omega (arith, x.1, length-map list s.rows), x.2)
