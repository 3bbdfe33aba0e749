-- Rows of a group before a number, and the changes that edits of one row are.
use Rattle.std.proofs.Common.{◌≡◌, ℕ, ◌+◌, ◌<◌, ◌≤◌, ◌⊎◌, inl, inr, List, [], ◌∷◌, ◌++◌, refl, sym, ap, ◌∙◌, subst, arith, length, take, drop, get_or, Bool, true}
use Rattle.std.proofs.Math.Seq.{get_or-append_seam}
use Rattle.std.proofs.lemmas.Bool.{cases_order}
use Rattle.std.proofs.lemmas.List.{get_or-drop, get_or_default, length-append, length-drop, take-append-drop}
use Rattle.std.proofs.lemmas.List.Elements.{All-contains, All-filter, Contains-get_or, Contains-append_cases, filter_passes}
use Rattle.std.proofs.lemmas.Option.{get_or_from_slice_get, same_Some}
use Rattle.std.specs.Prelude.{ℤ, All, AllPairs, Contains, filter, map, nat_eq, slice_get, Some}
use Rattle.ofit_num.specs.declared.row.Row.{Row}
use Rattle.ofit_num.proofs.Members.{Contains-filter, in_map, from_map}
use Rattle.ofit_study.specs.declared.edit.Edit.TheVariants.{Remove, Value, Weight}
use Rattle.ofit_study.specs.Added.{observation}
use Rattle.ofit_study.specs.Change.{Change, HasBefore, IsChangeFor}
use Rattle.ofit_study.specs.Edited.{HasRow, with_value, with_weight}
use Rattle.ofit_study.specs.Kept.{name_at}
use Rattle.ofit_study.specs.Put.{PutsAt}
use Rattle.ofit_study.specs.Splice.{IsRowAt}
use Rattle.ofit_study.specs.Study.{Observation, Study, IsFreeNumber, IsValid, group_names, groups_of, is_same_name, names_of, plain_row, rows_named}
use Rattle.ofit_study.proofs.Bisecting.{spread}
use Rattle.ofit_study.proofs.Edits.{its_number, row_of}
use Rattle.ofit_study.proofs.Exchanging.{group_at}
use Rattle.ofit_study.proofs.GroupNames.{is_same, same_name}
use Rattle.ofit_study.proofs.Respliced.{named_rising}
use Rattle.ofit_study.proofs.Splicing.{row_name}
use Rattle.ofit_study.proofs.Touching.{numbered_one}

from_filter : {X : Type 0} (p : X → Bool) (xs : List X) (x : X) → Contains (filter p xs) x → Contains xs x
from_filter p xs x c = All-contains (Contains xs) (filter p xs) x (All-filter p (Contains xs) xs (λ k d l. Contains-get_or xs k d l)) c

-- a row of a group is one of the study's, with the group's name
named_row : (rows : List Observation) (name : List ℕ) (r : Row) → Contains (rows_named rows name) r → (o : Observation) × Contains rows o × (o.group ≡ name) × (plain_row o ≡ r)
named_row rows name r c =
    let o = from_map plain_row (filter (λ o. is_same_name name o.group) rows) r c in
    (o.0, from_filter (λ o. is_same_name name o.group) rows o.0 o.1, sym (same_name name o.0.group (All-contains (λ o. is_same_name name o.group ≡ true) (filter (λ o. is_same_name name o.group) rows) o.0 (filter_passes (λ o. is_same_name name o.group) rows) o.1)), o.2)

row_named : (rows : List Observation) (o : Observation) → Contains rows o → Contains (rows_named rows o.group) (plain_row o)
row_named rows o c = in_map plain_row (filter (λ q. is_same_name o.group q.group) rows) o (Contains-filter (λ q. is_same_name o.group q.group) rows o c (is_same o.group))

-- the first row of a group tells whether one stands before a number
module _ (s : Study) (v : IsValid s) (place : ℕ) (inside : place < length (names_of s)) (rows : List Row) (at : slice_get (groups_of s) place ≡ Some rows) (number : ℕ) where
  rows_are : rows ≡ rows_named s.rows (name_at (names_of s) place)
  rows_are = sym (get_or_from_slice_get (groups_of s) place rows [] at) ∙ group_at s place inside

  pub before_from : (d : Row) → 0 < length rows → (get_or rows 0 d).number < number → HasBefore s (name_at (names_of s) place) number
  before_from d l b =
      let o = named_row s.rows (name_at (names_of s) place) (get_or rows 0 d) (subst (λ (t : List Row). Contains t (get_or rows 0 d)) rows_are (0, l, refl_at d)) in
      record { row = o.0; stands = o.1; of = o.2; before = omega (arith, b, ap (λ (r : Row). r.number) o.3) }
    where
      refl_at : (e : Row) → get_or rows 0 (get_or rows 0 e) ≡ get_or rows 0 e
      refl_at e = get_or_default rows 0 (get_or rows 0 e) e l

  pub before_to : (d : Row) → HasBefore s (name_at (names_of s) place) number → (get_or rows 0 d).number < number
  before_to d b =
      let c : Contains rows (plain_row b.row) = subst (λ (t : List Row). Contains t (plain_row b.row)) (sym rows_are) (subst (λ (n : List ℕ). Contains (rows_named s.rows n) (plain_row b.row)) b.of (row_named s.rows b.row b.stands)) in
      let rising : AllPairs (λ (q r : Row). q.number < r.number) rows = subst (AllPairs (λ q r. q.number < r.number)) (sym rows_are) (named_rising s.rows (name_at (names_of s) place) v.rising) in
      omega (
        arith,
        b.before,
        spread (λ (r : Row). r.number) rows rising d 0 c.0 c.0 (omega arith) c.1,
        ap (λ (r : Row). r.number) (get_or_default rows c.0 (plain_row b.row) d c.1),
        ap (λ (r : Row). r.number) c.2,
      )

-- a row before the number stands among the first ones
pub before_names : (s : Study) (index number : ℕ) → All (λ q. number ≤ q.number) (drop index s.rows) → (name : List ℕ) → HasBefore s name number → Contains (group_names (take index s.rows)) name
before_names s index number above name b = go (Contains-append_cases (take index s.rows) (drop index s.rows) b.row (subst (λ (t : List Observation). Contains t b.row) (sym (take-append-drop index s.rows)) b.stands)) where
  go : Contains (take index s.rows) b.row ⊎ Contains (drop index s.rows) b.row → Contains (group_names (take index s.rows)) name
  go (inl c) = subst (Contains (group_names (take index s.rows))) b.of (row_name (take index s.rows) b.row c)
  go (inr c) = absurd (omega (arith, b.before, All-contains (λ q. number ≤ q.number) (drop index s.rows) b.row above c))

-- from the row of a number on, no number is lower
pub from_row : (s : Study) → IsValid s → (index number : ℕ) → IsRowAt s index number → All (λ q. number ≤ q.number) (drop index s.rows)
from_row s v index number h k d l = omega (
  arith,
  h.is d,
  spread (λ (r : Observation). r.number) s.rows v.rising d index (index + k) k refl (omega (arith, l, length-drop index s.rows)),
  ap (λ (r : Observation). r.number) (get_or-drop index s.rows k d),
)

-- one number is the least free one
pub one_free : (rows : List Observation) (a b : ℕ) → IsFreeNumber rows a → IsFreeNumber rows b → a ≡ b
one_free rows a b f g = go (cases_order a b) where
  taken : (x y : ℕ) → x < y → IsFreeNumber rows x → IsFreeNumber rows y → ⊥
  taken x y l fx fy =
      let o = from_map (λ (r : Observation). r.number) rows x (fy.least x fx.from_one l) in
      All-contains (λ r. r.number ≡ x → ⊥) rows o.0 fx.free o.1 o.2

  go : (a ≡ b) ⊎ ((a < b) ⊎ (b < a)) → a ≡ b
  go (inl e) = e
  go (inr (inl l)) = absurd (taken a b l f g)
  go (inr (inr l)) = absurd (taken b a l g f)

-- one row has a number
pub only_row : (s : Study) → IsValid s → (number : ℕ) (a b : HasRow s number) → a.row ≡ b.row
only_row s v number a b = go (cases_order (length a.lower) (length b.lower)) where
  at : (h : HasRow s number) → get_or s.rows (length h.lower) a.row ≡ h.row
  at h = ap (λ (t : List Observation). get_or t (length h.lower) a.row) h.parted ∙ get_or-append_seam h.lower h.row h.higher a.row

  inside : (h : HasRow s number) → length h.lower < length s.rows
  inside h = omega (arith, ap length h.parted, length-append h.lower (h.row ∷ h.higher))

  apart : (x y : HasRow s number) → length x.lower < length y.lower → ⊥
  apart x y l = omega (arith, v.rising (length x.lower) (length y.lower) a.row l (inside y), ap (λ (r : Observation). r.number) (at x), ap (λ (r : Observation). r.number) (at y), x.is, y.is)

  go : (length a.lower ≡ length b.lower) ⊎ ((length a.lower < length b.lower) ⊎ (length b.lower < length a.lower)) → a.row ≡ b.row
  go (inl e) = sym (at a) ∙ ap (λ (k : ℕ). get_or s.rows k a.row) e ∙ at b
  go (inr (inl l)) = absurd (apart a b l)
  go (inr (inr l)) = absurd (apart b a l)

-- what a change puts in place of the row of a number
module _ (s : Study) (v : IsValid s) (index number : ℕ) (h : IsRowAt s index number) where
  abbrev pub row_put : (r : Observation) → slice_get s.rows index ≡ Some r → HasRow s number
  row_put r e = row_of s index number r e (its_number s index number r h e)

  puts_touch : (put : List Row) (c : Change) (p : PutsAt s index put c) → map (λ r. r.group) (filter (λ r. nat_eq r.number number) s.rows) ≡ name_at (names_of s) c.place ∷ []
  puts_touch put c p = numbered_one s v number (row_put p.row p.at) ∙ ap (λ (n : List ℕ). n ∷ []) (sym p.group)

  pub removes : (c : Change) → PutsAt s index [] c → IsChangeFor s (Remove number) c
  removes c p = record { of = p.of; after = (row_put p.row p.at, p.after); touches = puts_touch [] c p }

  pub sets_value : (row : Row) (name : List ℕ) → slice_get s.rows index ≡ Some (observation name row) → (value kept : ℤ) → kept ≡ value → (c : Change) → PutsAt s index (record { number = row.number; value = kept; weight = row.weight } ∷ []) c → IsChangeFor s (Value number value) c
  sets_value row name e value kept is c p = record {
    of = p.of;
    after = (row_put p.row p.at, p.after ∙ ap (λ (o : Observation). record s { rows = take index s.rows ++ o ∷ drop (index + 1) s.rows }) new);
    touches = puts_touch (record { number = row.number; value = kept; weight = row.weight } ∷ []) c p;
  } where
    same : observation name row ≡ p.row
    same = same_Some (observation name row) p.row (sym e ∙ p.at)

    new : observation p.row.group (record { number = row.number; value = kept; weight = row.weight }) ≡ with_value p.row value
    new = subst (λ (o : Observation). observation o.group (record { number = row.number; value = kept; weight = row.weight }) ≡ with_value o value) same (ap (λ (z : ℤ). with_value (observation name row) z) is)

  pub sets_weight : (row : Row) (name : List ℕ) → slice_get s.rows index ≡ Some (observation name row) → (weight : ℕ) (kept : ℤ) → kept ≡ row.value → (c : Change) → PutsAt s index (record { number = row.number; value = kept; weight = weight } ∷ []) c → IsChangeFor s (Weight number weight) c
  sets_weight row name e weight kept is c p = record {
    of = p.of;
    after = (row_put p.row p.at, p.after ∙ ap (λ (o : Observation). record s { rows = take index s.rows ++ o ∷ drop (index + 1) s.rows }) new);
    touches = puts_touch (record { number = row.number; value = kept; weight = weight } ∷ []) c p;
  } where
    same : observation name row ≡ p.row
    same = same_Some (observation name row) p.row (sym e ∙ p.at)

    new : observation p.row.group (record { number = row.number; value = kept; weight = weight }) ≡ with_weight p.row weight
    new = subst (λ (o : Observation). observation o.group (record { number = row.number; value = kept; weight = weight }) ≡ with_weight o weight) same (ap (λ (z : ℤ). with_weight (with_value (observation name row) z) weight) is)
