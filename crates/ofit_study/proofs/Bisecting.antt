-- Numbers that rise, and where they are cut.
use Rattle.std.proofs.Common.{◌≡◌, ◌≢◌, ℕ, zero, suc, ◌+◌, ◌-◌, ◌<◌, ◌≤◌, ◌⊎◌, inl, inr, List, ◌++◌, ap, ◌∙◌, subst, arith, length, get_or, take, drop}
use Rattle.std.proofs.lemmas.Bool.{cases_order}
use Rattle.std.proofs.Math.Seq.{take-append_seam, drop-append-add}
use Rattle.std.proofs.lemmas.List.{length-append, length-map, get_or-map, get_or_append_left, get_or-append-add, get_or_default}
use Rattle.std.specs.Prelude.{All, AllPairs, map}
use Rattle.std.specs.List.Sorted.{IsNonDecreasingBy}
use Rattle.ofit_study.specs.declared.entry.Entry.{Entry}
use Rattle.ofit_study.specs.declared.settings.Settings.{Settings}
use Rattle.ofit_study.specs.Kept.{made_of, observed}
use Rattle.ofit_study.specs.Splice.{IsCut, IsGapAmong, RiseFromOne}
use Rattle.ofit_study.specs.Study.{Observation, IsValid}

-- numbers that rise do so by at least one a step
pub spread : {X : Type 0} (f : X → ℕ) (xs : List X) → AllPairs (λ a b. f a < f b) xs → (d : X) (i j k : ℕ) → j ≡ i + k → j < length xs → f (get_or xs i d) + k ≤ f (get_or xs j d)
spread f xs h d i j zero e l =
    let same : i ≡ j = omega arith in
    subst (λ (n : ℕ). f (get_or xs i d) + 0 ≤ f (get_or xs n d)) same (omega arith)
spread f xs h d i j (suc k) e l = omega (arith, spread f xs h d i (j - 1) k (omega arith) (omega arith), h (j - 1) j d (omega arith) (omega arith))

pub rises : {X : Type 0} (f : X → ℕ) (xs : List X) → AllPairs (λ a b. f a < f b) xs → IsNonDecreasingBy f xs
rises f xs h i j d l k = omega (arith, spread f xs h d i j (j - i) (omega arith) k)

module _ (entries : List Entry) (h : RiseFromOne entries) where
  pub entry_least : (k : ℕ) (d : Entry) → k < length entries → k + 1 ≤ (get_or entries k d).row.number
  entry_least k d l = omega (arith, spread (λ (e : Entry). e.row.number) entries h.rising d 0 k k (omega arith) l, h.least 0 d (omega arith))

  -- where one has its number by its index, so have all before it
  pub whole_upto : (m : ℕ) (e : Entry) → m < length entries → (get_or entries m e).row.number ≡ m + 1 → (k : ℕ) (d : Entry) → k < m + 1 → (get_or entries k d).row.number ≡ k + 1
  whole_upto m e l is k d b = omega (
    arith,
    is,
    ap (λ (x : Entry). x.row.number) (get_or_default entries m e d l),
    entry_least k d (omega arith),
    spread (λ (x : Entry). x.row.number) entries h.rising d k m (m - k) (omega arith) l,
  )

  -- the whole list, where the last has
  pub whole_gap : (e : Entry) → 0 < length entries → (get_or entries (length entries - 1) e).row.number ≡ length entries → IsGapAmong entries (length entries)
  whole_gap e l is = record {
    inside = omega arith;
    before = λ k d b. whole_upto (length entries - 1) e (omega arith) (omega (arith, is)) k d (omega arith);
    at = λ d b. absurd (omega arith);
  }

  pub no_gap : length entries ≡ 0 → IsGapAmong entries (length entries)
  no_gap none = record {
    inside = omega arith;
    before = λ k d b. absurd (omega arith);
    at = λ d b. absurd (omega arith);
  }

  -- no entry has the number, where the one at the cut has another
  pub none_at : (number cut : ℕ) → IsCut (λ e. e.row.number) entries number cut → ((d : Entry) → cut < length entries → (get_or entries cut d).row.number ≢ number) → All (λ e. e.row.number ≢ number) entries
  none_at number cut is other k d l e = go (cases_order cut k) where
    go : (cut ≡ k) ⊎ ((cut < k) ⊎ (k < cut)) → ⊥
    go (inl same) = other d (omega arith) (ap (λ (j : ℕ). (get_or entries j d).row.number) same ∙ e)
    go (inr (inl b)) = omega (arith, e, is.from cut d (omega arith) (omega arith), h.rising cut k d b l)
    go (inr (inr b)) = omega (arith, e, is.below k d b)

-- the entries of a valid study
pub entries_rise : (settings : Settings) (names : List (List ℕ)) (entries : List Entry) (pairs : List (ℕ × ℕ)) → IsValid (made_of settings names entries pairs) → RiseFromOne entries
entries_rise settings names entries pairs v = record {
  least = λ k d l. subst (λ (r : Observation). 1 ≤ r.number) (at k d l) ((v.each k (observed names d) (omega (arith, l, counted))).least_number);
  rising = λ i j d l k.
      let li : i < length entries = omega (arith, l, k) in
      omega (arith, ap (λ (r : Observation). r.number) (at i d li), ap (λ (r : Observation). r.number) (at j d k), v.rising i j (observed names d) l (omega (arith, k, counted)));
} where
  counted : length (map (observed names) entries) ≡ length entries
  counted = length-map entries (observed names)

  at : (k : ℕ) (d : Entry) → k < length entries → get_or (map (observed names) entries) k (observed names d) ≡ observed names (get_or entries k d)
  at k d l = get_or-map (observed names) entries k d (observed names d) l

-- the cut of a list in two parts is where the second one begins
module _ {X : Type 0} (f : X → ℕ) (xs ys : List X) (number cut : ℕ) (d : X) (below : All (λ x. f x < number) xs) (above : All (λ x. number ≤ f x) ys) (is : IsCut f (xs ++ ys) number cut) where
  pub cut_is : cut ≡ length xs
  cut_is = go (cases_order cut (length xs)) where
    go : (cut ≡ length xs) ⊎ ((cut < length xs) ⊎ (length xs < cut)) → cut ≡ length xs
    go (inl e) = e
    go (inr (inl l)) = absurd (omega (arith, is.from cut d (omega arith) (omega (arith, length-append xs ys)), ap f (get_or_append_left xs ys d cut l), below cut d l))
    go (inr (inr l)) = absurd (omega (arith, is.inside, length-append xs ys, is.below (length xs + 0) d (omega arith), ap f (get_or-append-add xs ys 0 d), above 0 d (omega (arith, is.inside, length-append xs ys))))

  pub cut_front : take cut (xs ++ ys) ≡ xs
  cut_front = ap (λ (n : ℕ). take n (xs ++ ys)) cut_is ∙ take-append_seam xs ys

  pub cut_back : (n : ℕ) → drop (cut + n) (xs ++ ys) ≡ drop n ys
  cut_back n = ap (λ (k : ℕ). drop (k + n) (xs ++ ys)) cut_is ∙ drop-append-add xs ys n
