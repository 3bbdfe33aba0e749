-- What an edit leaves as it is.
use Rattle.std.proofs.Common.{◌≡◌, ◌≢◌, ℕ, ◌<◌, ◌⊎◌, inl, inr, List, [], ◌∷◌, ◌++◌, refl, sym, ap, ap₂, ◌∙◌, subst, arith, suc, get_or, take, drop, drop-cons, Bool, true, false, cond, map}
use Rattle.std.proofs.lemmas.Bool.Decides.{nat_tests}
use Rattle.std.proofs.lemmas.List.{take-append-drop}
use Rattle.std.proofs.lemmas.List.Elements.{All-nil, All-cons, All-head, All-weaker, filter-append}
use Rattle.std.specs.Prelude.{All, AllPairs, Contains, filter, nat_eq, ◌↔◌}
use Rattle.ofit_num.specs.declared.row.Row.{Row}
use Rattle.ofit_num.proofs.Sheets.{AllPairs-head}
use Rattle.ofit_study.specs.Study.{Observation, Study, IsValid, rows_named, plain_row, is_same_name}
use Rattle.ofit_study.specs.declared.edit.Edit.{Edit}
use Rattle.ofit_study.specs.declared.edit.Edit.TheVariants.{Add, Remove, Value, Weight, Relate, Unrelate}
use Rattle.ofit_study.specs.Edited.{HasRow, IsAfter, touched, groups_numbered, with_value, with_weight}
use Rattle.ofit_study.proofs.GroupNames.{is_other}
use Rattle.ofit_study.proofs.Pushing.{filter-none}
use Rattle.ofit_study.proofs.Editing.{named-append}
use Rattle.ofit_study.proofs.Splicing.{AllPairs-across, AllPairs-right}

same_place : (a b : ℕ) → a ≡ b → nat_eq a b ≡ true
same_place a b e = grind (arith, nat_tests)

other_place : (a b : ℕ) → a ≢ b → nat_eq a b ≡ false
other_place a b e = grind (arith, nat_tests)

-- apart from groups of these names the two studies are the same
pub record IsSameApart (names : List (List ℕ)) (before after : Study) : Type 0 where
  pub settings : after.settings ≡ before.settings
  pub rows : (n : List ℕ) → (Contains names n → ⊥) → rows_named after.rows n ≡ rows_named before.rows n
  pub pairs : (e : List ℕ × List ℕ) → (Contains names e.0 → ⊥) ⊎ (Contains names e.1 → ⊥) → Contains after.pairs e ↔ Contains before.pairs e

none_named : (rows : List Observation) (n : List ℕ) → All (λ r. n ≢ r.group) rows → rows_named rows n ≡ []
none_named rows n h =
    ap (map plain_row) (filter-none (λ o. is_same_name n o.group) rows (All-weaker (λ o. n ≢ o.group) (λ o. is_same_name n o.group ≡ false) (λ o d. is_other n o.group d) rows h))

-- rows of other groups are not among those of a name
pub named_apart : (lower mid higher : List Observation) (n : List ℕ) → All (λ r. n ≢ r.group) mid → rows_named (lower ++ (mid ++ higher)) n ≡ rows_named lower n ++ rows_named higher n
named_apart lower mid higher n h =
    named-append lower (mid ++ higher) n
    ∙ ap (λ (t : List Row). rows_named lower n ++ t) (named-append mid higher n ∙ ap (λ (t : List Row). t ++ rows_named higher n) (none_named mid n h))

same_pairs : (before after : Study) → after.pairs ≡ before.pairs → (e : List ℕ × List ℕ) → Contains after.pairs e ↔ Contains before.pairs e
same_pairs before after h e = (λ c. subst (λ (t : List (List ℕ × List ℕ)). Contains t e) h c, λ c. subst (λ (t : List (List ℕ × List ℕ)). Contains t e) (sym h) c)

-- where rows of touched groups come and go
respliced : (names : List (List ℕ)) (s after : Study) (lower old new higher : List Observation) → s.rows ≡ lower ++ (old ++ higher) → after ≡ record s { rows = lower ++ (new ++ higher) }
    → All (λ r. Contains names r.group) old → All (λ r. Contains names r.group) new → IsSameApart names s after
respliced names s after lower old new higher parted is olds news = record {
  settings = ap (λ (t : Study). t.settings) is;
  rows = λ n out.
      ap (λ (t : Study). rows_named t.rows n) is
      ∙ named_apart lower new higher n (apart n out new news)
      ∙ sym (ap (λ (t : List Observation). rows_named t n) parted ∙ named_apart lower old higher n (apart n out old olds));
  pairs = λ e h. same_pairs s after (ap (λ (t : Study). t.pairs) is) e;
} where
  apart : (n : List ℕ) → (Contains names n → ⊥) → (rows : List Observation) → All (λ r. Contains names r.group) rows → All (λ r. n ≢ r.group) rows
  apart n out rows h = All-weaker (λ r. Contains names r.group) (λ r. n ≢ r.group) (λ r c same. out (subst (Contains names) (sym same) c)) rows h

-- both ends of the pair itself are touched
both_in : (low high : List ℕ) (e : List ℕ × List ℕ) → e ≡ (low, high) → (Contains (low ∷ high ∷ []) e.0 → ⊥) ⊎ (Contains (low ∷ high ∷ []) e.1 → ⊥) → ⊥
both_in low high e same (inl out) = out (0, omega arith, ap (λ (t : List ℕ × List ℕ). t.0) (sym same))
both_in low high e same (inr out) = out (1, omega arith, ap (λ (t : List ℕ × List ℕ). t.1) (sym same))

all_one : (P : Observation → Type 0) (r : Observation) → P r → All P (r ∷ [])
all_one P r h = All-cons P r [] h (All-nil P)

-- the groups of the rows of a row's number are its own
pub numbered_one : (s : Study) → IsValid s → (number : ℕ) (at : HasRow s number) → groups_numbered s number ≡ at.row.group ∷ []
numbered_one s v number at = ap (map (λ (r : Observation). r.group)) filtered where
  rising : AllPairs (λ a b. a.number < b.number) (at.lower ++ at.row ∷ at.higher)
  rising = subst (AllPairs (λ a b. a.number < b.number)) at.parted v.rising

  lower_none : filter (λ r. nat_eq r.number number) at.lower ≡ []
  lower_none =
      filter-none (λ r. nat_eq r.number number) at.lower
      (All-weaker (λ a. All (λ b. a.number < b.number) (at.row ∷ at.higher)) (λ a. nat_eq a.number number ≡ false)
      (λ a h. other_place a.number number (λ e. omega (arith, at.is, e, All-head (λ b. a.number < b.number) at.row at.higher h)))
      at.lower (AllPairs-across (λ a b. a.number < b.number) at.lower (at.row ∷ at.higher) rising))

  higher_none : filter (λ r. nat_eq r.number number) at.higher ≡ []
  higher_none =
      filter-none (λ r. nat_eq r.number number) at.higher
      (All-weaker (λ b. at.row.number < b.number) (λ b. nat_eq b.number number ≡ false)
      (λ b h. other_place b.number number (λ e. omega (arith, at.is, e, h)))
      at.higher (AllPairs-head (λ a b. a.number < b.number) at.row at.higher (AllPairs-right (λ a b. a.number < b.number) at.lower (at.row ∷ at.higher) rising)))

  filtered : filter (λ r. nat_eq r.number number) s.rows ≡ at.row ∷ []
  filtered =
      ap (filter (λ r. nat_eq r.number number)) at.parted
      ∙ filter-append (λ r. nat_eq r.number number) at.lower (at.row ∷ at.higher)
      ∙ ap₂ (λ (x y : List Observation). x ++ y) lower_none
      (ap (λ (t : Bool). cond t (at.row ∷ filter (λ r. nat_eq r.number number) at.higher) (filter (λ r. nat_eq r.number number) at.higher)) (same_place at.row.number number at.is)
      ∙ ap (λ (t : List Observation). at.row ∷ t) higher_none)

-- a row's group is that of its number
has : (s : Study) → IsValid s → (number : ℕ) (at : HasRow s number) → Contains (groups_numbered s number) at.row.group
has s v number at = subst (λ (t : List (List ℕ)). Contains t at.row.group) (sym (numbered_one s v number at)) (0, omega arith, refl)

pub numbered_none : (s : Study) (number : ℕ) → (HasRow s number → ⊥) → groups_numbered s number ≡ []
numbered_none s number none = ap (map (λ (r : Observation). r.group)) (filter-none (λ r. nat_eq r.number number) s.rows other) where
  other : All (λ r. nat_eq r.number number ≡ false) s.rows
  other k d l =
      other_place (get_or s.rows k d).number number
      (λ e. none (record { lower = take k s.rows; row = get_or s.rows k d; higher = drop (suc k) s.rows; parted = sym (take-append-drop k s.rows) ∙ ap (λ (t : List Observation). take k s.rows ++ t) (drop-cons s.rows k d l); is = e }))

-- apart from the groups that an edit touches the study stays
pub same_apart : (s : Study) → IsValid s → (edit : Edit) (after : Study) → IsAfter s edit after → IsSameApart (touched s edit) s after
same_apart s v (Add group value weight) after h = respliced (group ∷ []) s after h.lower [] (row ∷ []) h.higher h.parted h.gains (All-nil (λ r. Contains (group ∷ []) r.group)) (all_one (λ r. Contains (group ∷ []) r.group) row (0, omega arith, refl)) where
  row : Observation
  row = record { number = h.number; group = group; value = value; weight = weight }
same_apart s v (Remove number) after (at, is) =
    let names = groups_numbered s number in
    respliced names s after at.lower (at.row ∷ []) [] at.higher at.parted is (all_one (λ r. Contains names r.group) at.row (has s v number at)) (All-nil (λ r. Contains names r.group))
same_apart s v (Value number value) after (at, is) =
    let names = groups_numbered s number in
    respliced names s after at.lower (at.row ∷ []) (with_value at.row value ∷ []) at.higher at.parted is (all_one (λ r. Contains names r.group) at.row (has s v number at)) (all_one (λ r. Contains names r.group) (with_value at.row value) (has s v number at))
same_apart s v (Weight number weight) after (at, is) =
    let names = groups_numbered s number in
    respliced names s after at.lower (at.row ∷ []) (with_weight at.row weight ∷ []) at.higher at.parted is (all_one (λ r. Contains names r.group) at.row (has s v number at)) (all_one (λ r. Contains names r.group) (with_weight at.row weight) (has s v number at))
same_apart s v (Relate low high) after h = record {
  settings = ap (λ (t : Study). t.settings) h.others;
  rows = λ n out. ap (λ (t : Study). rows_named t.rows n) h.others;
  pairs = λ e out. (λ c. from e out ((h.just e).0 c), λ c. (h.just e).1 (inl c));
} where
  from : (e : List ℕ × List ℕ) → (Contains (low ∷ high ∷ []) e.0 → ⊥) ⊎ (Contains (low ∷ high ∷ []) e.1 → ⊥) → Contains s.pairs e ⊎ (e ≡ (low, high)) → Contains s.pairs e
  from e out (inl c) = c
  from e out (inr same) = absurd (both_in low high e same out)
same_apart s v (Unrelate low high) after h = record {
  settings = ap (λ (t : Study). t.settings) h.others;
  rows = λ n out. ap (λ (t : Study). rows_named t.rows n) h.others;
  pairs = λ e out. (λ c. ((h.just e).0 c).0, λ c. (h.just e).1 (c, λ same. both_in low high e same out));
}
