-- The values of a chain's groups, from the lowest to the highest, and in the order of the members.
use Rattle.std.proofs.Common.{◌≡◌, ℕ, ◌<◌, sym, ap, subst, ◌∙◌, arith, List, length, map, slice_index, ◌↔◌}
use Rattle.std.proofs.lemmas.List.{same_lists, get_or-map, length-map, get_or_default}
use Rattle.std.specs.Prelude.{slice_get, All}
use Rattle.std.specs.List.{Contains}
use Rattle.ofit_num.specs.Problem.{Problem}
use Rattle.ofit_num.specs.Unbounded.{no_bounds}
use Rattle.ofit_num.specs.Meaning.{Meaning}
use Rattle.ofit_num.specs.Fraction.{Fraction}
use Rattle.ofit_num.specs.Fit.{LeastBestValues}
use Rattle.ofit_num.specs.Law.{HasScaling}
use Rattle.ofit_order.specs.Connection.{LeadsUp}
use Rattle.ofit_order.specs.Shape.{IsChainOf}
use Rattle.ofit_chain.specs.Chain.{chain_problem}
use Rattle.ofit_fit.specs.Part.{position_among, part_of}
use Rattle.ofit_fit.specs.Put.{ArePut}
use Rattle.ofit_fit.proofs.Places.{HasPlace, IsDistinct}
use Rattle.ofit_fit.proofs.Parts.{part_scaling}
use Rattle.ofit_fit.proofs.Closed.{IsClosed, part_of-IsPart}
use Rattle.ofit_fit.proofs.ChainPaths.{once, as_many, position_back, position_below}
use Rattle.ofit_fit.proofs.ChainParts.{all_in, chain_part, values_back}

-- the members at positions are among the places of the members
pub along_inside : (members path : List ℕ) (n : ℕ) → All (λ g. g < n) members → All (λ p. p < length members) path → All (λ g. g < n) (map (slice_index members) path)
along_inside members path n inside within k d l =
    let b : k < length path = omega (arith, l, length-map path (slice_index members)) in
    omega (arith, get_or-map (slice_index members) path k 0 d b, inside (slice_index path k) 0 (within k 0 b))

pub along_once : (members path : List ℕ) → ((i j : ℕ) → i < length path → j < length path → slice_index members (slice_index path i) ≡ slice_index members (slice_index path j) → i ≡ j)
    → IsDistinct (slice_index (map (slice_index members) path)) (length (map (slice_index members) path))
along_once members path apart i j l m e =
    let b : i < length path = omega (arith, l, length-map path (slice_index members)) in
    let c : j < length path = omega (arith, m, length-map path (slice_index members)) in
    apart i j b c (sym (get_or-map (slice_index members) path i 0 0 b) ∙ e ∙ get_or-map (slice_index members) path j 0 0 c)

module _ (pairs : List (ℕ × ℕ)) (members list : List ℕ) (distinct : IsDistinct (slice_index members) (length members)) (chain : IsChainOf pairs members list) (path : List ℕ) (is : path ≡ map (position_among members) list) where
  pub path_count : length path ≡ length members
  path_count = ap length is ∙ length-map list (position_among members) ∙ as_many pairs members list distinct chain

  path_at : (k : ℕ) → k < length list → slice_index path k ≡ position_among members (slice_index list k)
  path_at k l = ap (λ (xs : List ℕ). slice_index xs k) is ∙ get_or-map (position_among members) list k 0 0 l

  in_list : (k : ℕ) → k < length path → k < length list
  in_list k l = omega (arith, l, ap length is, length-map list (position_among members))

  pub path_inside : All (λ p. p < length members) path
  path_inside k d l = omega (arith, get_or_default path k d 0 l, path_at k (in_list k l), position_below pairs members list distinct chain k (in_list k l))

  -- each place of the path is the list's
  pub path_place : (k : ℕ) → k < length path → slice_index members (slice_index path k) ≡ slice_index list k
  path_place k l = ap (slice_index members) (path_at k (in_list k l)) ∙ position_back pairs members list distinct chain k (in_list k l)

  pub path_once : (i j : ℕ) → i < length path → j < length path → slice_index members (slice_index path i) ≡ slice_index members (slice_index path j) → i ≡ j
  path_once i j l m e = once pairs members list distinct chain i j (in_list i l) (in_list j m) (sym (path_place i l) ∙ e ∙ path_place j m)

  pub path_distinct : IsDistinct (slice_index path) (length path)
  path_distinct i j l m e = path_once i j l m (ap (slice_index members) e)

  path_places : map (slice_index members) path ≡ list
  path_places = same_lists (map (slice_index members) path) list (length-map path (slice_index members) ∙ ap length is ∙ length-map list (position_among members))
      (λ k d l.
      let b : k < length path = omega (arith, l, length-map path (slice_index members)) in
      get_or-map (slice_index members) path k 0 d b ∙ path_place k b ∙ get_or_default list k 0 d (in_list k b))

  -- What is least best for the groups in the chain's order is so for the part, in the members' order.
  pub chained : (m : Meaning) (s : Problem) → ((g : ℕ) → s.bounds g ≡ no_bounds g) → ((e : ℕ × ℕ) → Contains pairs e ↔ Contains s.pairs e) → IsClosed s members → HasScaling m s
      → (values fitted : List Fraction) → LeastBestValues m (chain_problem (map s.rows (map (slice_index members) path))) values → ArePut path values values fitted → LeastBestValues m (part_of s members) fitted
  chained m s free same closed law values fitted low put =
      values_back m (part_of s members) (chain_problem (map s.rows list)) (λ i. position_among members (slice_index list i))
      (part_of-IsPart s members closed).places
      (part_scaling s (part_of s members) (slice_index members) (part_of-IsPart s members closed) m law)
      (chain_part s free pairs same members list distinct up chain)
      (λ g l. let x : HasPlace (λ i. position_among members (slice_index list i)) (length list) g = all_in s free pairs same members list distinct up chain g l in (x.0, omega (arith, x.1, length-map list s.rows), x.2))
      fitted values (omega (arith, put.count, count, as_many pairs members list distinct chain))
      (record { count = count ∙ sym (length-map list s.rows); same = λ i l. picked i (omega (arith, l, length-map list s.rows)) })
      (subst (λ (xs : List ℕ). LeastBestValues m (chain_problem (map s.rows xs)) values) path_places low)
    where
      up : (a b : ℕ) → LeadsUp pairs a b → Contains members a → Contains members b
      up a b h c = closed.up a b ((same (a, b)).0 h) c

      count : length values ≡ length list
      count = low.count ∙ length-map (map (slice_index members) path) s.rows ∙ ap length path_places

      picked : (i : ℕ) → i < length list → slice_get values i ≡ slice_get fitted (position_among members (slice_index list i))
      picked i l = sym (put.put i (omega (arith, l, ap length is, length-map list (position_among members)))) ∙ ap (slice_get fitted) (path_at i l)
