-- The least number that no row has.
use Rattle.std.proofs.Common.{◌≡◌, ◌≢◌, ℕ, ◌+◌, ◌-◌, ◌<◌, ◌≤◌, ◌⊎◌, inl, inr, List, [], ◌∷◌, ◌++◌, refl, sym, ap, ◌∙◌, subst, arith, length, get_or, take, drop}
use Rattle.std.proofs.lemmas.Bool.{cases_order}
use Rattle.std.proofs.lemmas.List.{length-map, length-drop, length-take-le, get_or-map, get_or-take, get_or-drop, take-append-drop}
use Rattle.std.specs.Prelude.{pos, All, Contains, map, Option, None, Some, MatchOption}
use Rattle.ofit_study.specs.Study.{Observation, Study, IsValid, IsFreeNumber, GainsRow}
use Rattle.ofit_study.specs.declared.entry.Entry.{Entry}
use Rattle.ofit_study.specs.declared.settings.Settings.{Settings}
use Rattle.ofit_study.specs.Added.{IsFirstGap}
use Rattle.ofit_study.specs.Edited.{HasRow}
use Rattle.ofit_study.specs.Kept.{made_of, observed}
use Rattle.ofit_study.specs.Splice.{IsEntryAt, IsGapAmong, IsRowAt}
use Rattle.ofit_study.proofs.Bisecting.{spread}
use Rattle.ofit_study.proofs.Editing.{parts_mid}

abbrev pub numbers : List Observation → List ℕ
numbers rows = map (λ r. r.number) rows

pub number_at : (rows : List Observation) (k : ℕ) (d : Observation) → k < length rows → get_or (numbers rows) k 0 ≡ (get_or rows k d).number
number_at rows k d l = get_or-map (λ (r : Observation). r.number) rows k d 0 l

module _ (s : Study) (v : IsValid s) where
  least_at : (k : ℕ) (d : Observation) → k < length s.rows → k + 1 ≤ (get_or s.rows k d).number
  least_at k d l = omega (arith, spread (λ (r : Observation). r.number) s.rows v.rising d 0 k k (omega arith) l, (v.each 0 d (omega arith)).least_number)

  counted : length (numbers s.rows) ≡ length s.rows
  counted = length-map s.rows (λ (r : Observation). r.number)

  pub some : Observation
  some = record { number = 0; group = []; value = pos 0; weight = 0 }

  -- where the number after the first ones is another
  pub gap_found : (place : ℕ) → place ≤ length s.rows → ((k : ℕ) (d : Observation) → k < place → (get_or s.rows k d).number ≡ k + 1) → ((d : Observation) → place < length s.rows → (get_or s.rows place d).number ≢ place + 1)
      → IsFirstGap (numbers s.rows) place
  gap_found place inside before at = record {
    inside = omega (arith, counted);
    before = λ k l. number_at s.rows k some (omega arith) ∙ before k some l;
    behind = λ l. behind (omega (arith, counted));
  } where
    behind : place < length s.rows → place + 1 < get_or (numbers s.rows) place 0
    behind l = omega (arith, number_at s.rows place some l, least_at place some l, at some l)

module _ (s : Study) (v : IsValid s) (place : ℕ) (gap : IsFirstGap (numbers s.rows) place) where
  pub gap_inside : place ≤ length s.rows
  gap_inside = omega (arith, gap.inside, length-map s.rows (λ (r : Observation). r.number))

  before : (k : ℕ) (d : Observation) → k < place → (get_or s.rows k d).number ≡ k + 1
  before k d l = sym (number_at s.rows k d (omega (arith, gap_inside))) ∙ gap.before k l

  behind : (k : ℕ) (d : Observation) → place ≤ k → k < length s.rows → place + 1 < (get_or s.rows k d).number
  behind k d p l = go (cases_order place k) where
    at : place < length s.rows → place + 1 < (get_or s.rows place d).number
    at b = omega (arith, gap.behind (omega (arith, length-map s.rows (λ (r : Observation). r.number))), number_at s.rows place d b)

    go : (place ≡ k) ⊎ ((place < k) ⊎ (k < place)) → place + 1 < (get_or s.rows k d).number
    go (inl e) = subst (λ (n : ℕ). place + 1 < (get_or s.rows n d).number) e (at (omega arith))
    go (inr (inl b)) = omega (arith, at (omega arith), v.rising place k d b l)
    go (inr (inr b)) = absurd (omega arith)

  pub gap_free : IsFreeNumber s.rows (place + 1)
  gap_free = record {
    from_one = omega arith;
    free = λ k d l e. none k d l e (cases_order k place);
    least = λ k l b. (k - 1, omega (arith, gap_inside, length-map s.rows (λ (r : Observation). r.number)), listed k l b);
  } where
    none : (k : ℕ) (d : Observation) → k < length s.rows → (get_or s.rows k d).number ≡ place + 1 → (k ≡ place) ⊎ ((k < place) ⊎ (place < k)) → ⊥
    none k d l e (inl same) = omega (arith, e, behind k d (omega arith) l)
    none k d l e (inr (inl b)) = omega (arith, e, before k d b)
    none k d l e (inr (inr b)) = omega (arith, e, behind k d (omega arith) l)

    listed : (k : ℕ) → 1 ≤ k → k < place + 1 → get_or (numbers s.rows) (k - 1) k ≡ k
    listed k l b =
        let d : Observation = record { number = 0; group = []; value = pos 0; weight = 0 } in
        let inside : k - 1 < length s.rows = omega (arith, gap_inside) in
        get_or-map (λ (r : Observation). r.number) s.rows (k - 1) d k inside ∙ before (k - 1) d (omega arith) ∙ omega arith

  below : All (λ r. r.number < place + 1) (take place s.rows)
  below k d l =
      let inside : k < place = omega (arith, length-take-le place s.rows gap_inside) in
      subst (λ (r : Observation). r.number < place + 1) (sym (get_or-take place s.rows k d inside)) (omega (arith, before k d inside))

  above : All (λ r. place + 1 < r.number) (drop place s.rows)
  above k d l =
      subst (λ (r : Observation). place + 1 < r.number) (sym (get_or-drop place s.rows k d)) (behind (place + k) d (omega arith) (omega (arith, length-drop place s.rows)))

  module _ (r : Observation) (is : r.number ≡ place + 1) where
    pub below_row : All (λ q. q.number < r.number) (take place s.rows)
    below_row = subst (λ (n : ℕ). All (λ q. q.number < n) (take place s.rows)) (sym is) below

    pub above_row : All (λ q. r.number < q.number) (drop place s.rows)
    above_row = subst (λ (n : ℕ). All (λ q. n < q.number) (drop place s.rows)) (sym is) above

    pub gap_gains : GainsRow s r.group r.value r.weight (record s { rows = take place s.rows ++ r ∷ drop place s.rows })
    gap_gains = record {
      number = r.number;
      free = subst (IsFreeNumber s.rows) (sym is) gap_free;
      lower = take place s.rows;
      higher = drop place s.rows;
      parted = sym (take-append-drop place s.rows);
      below = below_row;
      above = above_row;
      gains = refl;
    }

-- the numbers of entries are those of the rows
module _ (settings : Settings) (names : List (List ℕ)) (entries : List Entry) (pairs : List (ℕ × ℕ)) where
  entry_number : (k : ℕ) (d : Observation) (e : Entry) → k < length entries → (get_or (map (observed names) entries) k d).number ≡ (get_or entries k e).row.number
  entry_number k d e l = ap (λ (r : Observation). r.number) (get_or-map (observed names) entries k e d l)

  no_entry : Entry
  no_entry = record { place = 0; row = record { number = 0; value = pos 0; weight = 0 } }

  pub gap_here : (s : Study) → made_of settings names entries pairs ≡ s → IsValid (made_of settings names entries pairs) → (place : ℕ) → IsGapAmong entries place → IsFirstGap (numbers s.rows) place
  gap_here s is v place g =
      subst (λ (t : Study). IsFirstGap (numbers t.rows) place) is
      (gap_found (made_of settings names entries pairs) v place (omega (arith, g.inside, counted_here))
      (λ k d b. entry_number k d no_entry (omega (arith, g.inside)) ∙ g.before k no_entry b)
      (λ d b e. g.at no_entry (omega (arith, counted_here)) (sym (entry_number place d no_entry (omega (arith, counted_here))) ∙ e)))
    where
      counted_here : length (map (observed names) entries) ≡ length entries
      counted_here = length-map entries (observed names)

  pub row_here : (s : Study) → made_of settings names entries pairs ≡ s → (number : ℕ) (o : Option ℕ) → MatchOption o (All (λ e. e.row.number ≢ number) entries) (λ index. IsEntryAt entries index number)
      → MatchOption o (HasRow s number → ⊥) (λ index. IsRowAt s index number)
  row_here s is number None h = subst (λ (t : Study). HasRow t number → ⊥) is none where
    none : HasRow (made_of settings names entries pairs) number → ⊥
    none at =
        let here = subst (λ (t : List Observation). Contains t at.row) (sym at.parted) (parts_mid at.lower (at.row ∷ []) at.higher at.row (0, omega arith, refl)) in
        let inside : here.0 < length entries = omega (arith, here.1, length-map entries (observed names)) in
        h here.0 no_entry inside (sym (entry_number here.0 at.row no_entry inside) ∙ ap (λ (r : Observation). r.number) here.2 ∙ at.is)
  row_here s is number (Some index) h = subst (λ (t : Study). IsRowAt t index number) is (record {
    inside = omega (arith, h.inside, length-map entries (observed names));
    is = λ d. entry_number index d no_entry h.inside ∙ h.is no_entry;
  })
