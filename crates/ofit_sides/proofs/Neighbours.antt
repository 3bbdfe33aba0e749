-- The neighbours of a chain that have one value.
use Rattle.std.proofs.Common.{◌≡◌, ℕ, suc, ◌+◌, ◌-◌, ◌<◌, ◌≤◌, List, [], ◌∷◌, ◌++◌, length, refl, ap, ◌∙◌, arith, Bool, true, false, cond, map, take}
use Rattle.std.proofs.lemmas.List.{append-nil, length-take-le}
use Rattle.std.proofs.lemmas.List.Elements.{All-filter, filter_passes}
use Rattle.std.proofs.lemmas.List.FromFn.{get_or-map-range_with_len, length-map-range_with_len, filter_of_map_range_with_len_more}
use Rattle.std.proofs.lemmas.List.Kept.{AllPairs-filter}
use Rattle.std.proofs.lemmas.List.Sums.{length-filter, count_by-le-length}
use Rattle.std.specs.List.{range_with_len, filter}
use Rattle.std.specs.Prelude.{All}
use Rattle.ofit_num.specs.Fraction.{Fraction}
use Rattle.ofit_num.specs.Groups.{RowLists}
use Rattle.ofit_num.specs.Pairs.{chain_pairs}
use Rattle.ofit_num.specs.ProblemPairs.{HasPlaces}
use Rattle.ofit_num.specs.Tight.{is_tight, tight_among}
use Rattle.ofit_chain.proofs.Runs.{each_pair}
use Rattle.ofit_cut.specs.Sets.{AreWithin}
use Rattle.ofit_sides.specs.FirstFit.{first_chain}
use Rattle.ofit_sides.specs.Leaving.{RiseByLow}

pub tight_within : (fs : List Fraction) → AreWithin (tight_among fs (chain_pairs (length fs))) (length fs)
tight_within fs = All-filter (is_tight fs) (λ e. (e.0 < length fs) × (e.1 < length fs)) (chain_pairs (length fs)) (each_pair (λ e. (e.0 < length fs) × (e.1 < length fs)) (length fs) (λ k l. (omega arith, l)))

pub tight_lead_on : (fs : List Fraction) → All (λ e. e.1 ≡ suc e.0) (tight_among fs (chain_pairs (length fs)))
tight_lead_on fs = All-filter (is_tight fs) (λ e. e.1 ≡ suc e.0) (chain_pairs (length fs)) (each_pair (λ e. e.1 ≡ suc e.0) (length fs) (λ k l. refl))

pub tight_passes : (fs : List Fraction) → All (λ e. is_tight fs e ≡ true) (tight_among fs (chain_pairs (length fs)))
tight_passes fs = filter_passes (is_tight fs) (chain_pairs (length fs))

chain_rises : (n : ℕ) → RiseByLow (chain_pairs n)
chain_rises n i j d l m =
    let long : j < n - 1 = omega (arith, length-map-range_with_len {X = ℕ × ℕ} (λ (k : ℕ). (k, k + 1)) 0 (n - 1), m) in
    let first = get_or-map-range_with_len {X = ℕ × ℕ} (λ (k : ℕ). (k, k + 1)) 0 (n - 1) i i d (omega (arith, l, long)) (omega arith) in
    let second = get_or-map-range_with_len {X = ℕ × ℕ} (λ (k : ℕ). (k, k + 1)) 0 (n - 1) j j d long (omega arith) in
    omega (arith, l, ap (λ (e : ℕ × ℕ). e.0) first, ap (λ (e : ℕ × ℕ). e.0) second)

pub tight_rise : (fs : List Fraction) → RiseByLow (tight_among fs (chain_pairs (length fs)))
tight_rise fs = AllPairs-filter (λ e f. e.0 < f.0) (is_tight fs) (chain_pairs (length fs)) (chain_rises (length fs))

pub tight_few : (fs : List Fraction) → length (tight_among fs (chain_pairs (length fs))) ≤ length fs
tight_few fs = omega (
  arith,
  length-filter (is_tight fs) (chain_pairs (length fs)),
  count_by-le-length (is_tight fs) (chain_pairs (length fs)),
  length-map-range_with_len {X = ℕ × ℕ} (λ (k : ℕ). (k, k + 1)) 0 (length fs - 1),
)

-- the chain of the first groups has as many places as these
pub first_count : (groups : RowLists) (n : ℕ) → n ≤ length groups → length (take n groups) ≡ n
first_count groups n l = length-take-le n groups l

pub first_places : (groups : RowLists) (n : ℕ) → HasPlaces (first_chain groups n)
first_places groups n = each_pair (λ e. (e.0 < length (take n groups)) × (e.1 < length (take n groups))) (length (take n groups)) (λ k l. (omega arith, l))

-- one neighbour more
module _ (fs : List Fraction) (k : ℕ) (some : 1 ≤ k) where
  abbrev step : ℕ → ℕ × ℕ
  step i = (i, i + 1)

  tight_more : tight_among fs (chain_pairs (k + 1)) ≡ tight_among fs (chain_pairs k) ++ cond (is_tight fs (k - 1, k)) ((k - 1, k) ∷ []) []
  tight_more =
      let next : (k + 1) - 1 ≡ (k - 1) + 1 = omega (arith, some) in
      let high : (k - 1) + 1 ≡ k = omega (arith, some) in
      ap (λ (j : ℕ). filter (is_tight fs) (map step (range_with_len 0 j))) next ∙ filter_of_map_range_with_len_more (is_tight fs) step 0 (k - 1) (k - 1) (omega arith)
      ∙ ap (λ (j : ℕ). tight_among fs (chain_pairs k) ++ cond (is_tight fs (k - 1, j)) ((k - 1, j) ∷ []) []) high

  pub tight_kept : is_tight fs (k - 1, k) ≡ true → tight_among fs (chain_pairs (k + 1)) ≡ tight_among fs (chain_pairs k) ++ (k - 1, k) ∷ []
  tight_kept e = tight_more ∙ ap (λ (b : Bool). tight_among fs (chain_pairs k) ++ cond b ((k - 1, k) ∷ []) []) e

  pub tight_left : is_tight fs (k - 1, k) ≡ false → tight_among fs (chain_pairs (k + 1)) ≡ tight_among fs (chain_pairs k)
  tight_left e = tight_more ∙ ap (λ (b : Bool). tight_among fs (chain_pairs k) ++ cond b ((k - 1, k) ∷ []) []) e ∙ append-nil (tight_among fs (chain_pairs k))
