-- A row after the others of a table.
use Rattle.std.proofs.Common.{◌≡◌, ◌<◌, ◌+◌, ◌-◌, ◌++◌, ◌∙◌, ℕ, ℤ, append-nil, zero, suc, List, [], ◌∷◌, Some, map, length, slice_get, get_or, refl, sym, ap, subst, inl, inr, arith}
use Rattle.std.specs.Prelude.{All, Contains}
use Rattle.std.proofs.lemmas.Bool.{cases_lt}
use Rattle.std.proofs.lemmas.List.{length-map, get_or-map, length-append}
use Rattle.std.proofs.lemmas.Option.{slice_get-get_or, same_Some}
use Rattle.ofit_table.specs.Numbered.{AreNumbered}
use Rattle.ofit_study.specs.Study.{GainsRow, IsFreeNumber, Observation, Study}

-- the numbers rise from n on
abbrev pub NumberedFrom : ℕ → List Observation → Type 0
NumberedFrom n rows = (k : ℕ) (r : Observation) → slice_get rows k ≡ Some r → r.number ≡ k + n

numbered_from-push : (n : ℕ) (rows : List Observation) (r : Observation) → NumberedFrom n rows → r.number ≡ length rows + n → NumberedFrom n (rows ++ r ∷ [])
numbered_from-push n [] r h e zero x at = sym (ap (λ (o : Observation). o.number) (same_Some r x at)) ∙ e
numbered_from-push n [] r h e (suc k) x at = cc
numbered_from-push n (y ∷ rows) r h e zero x at = h zero x at
numbered_from-push n (y ∷ rows) r h e (suc k) x at =
    let more = numbered_from-push (suc n) rows r (λ j z there. omega (arith, h (suc j) z there)) (omega (arith, e)) k x at in
    omega (arith, more)

pub numbered-push : (rows : List Observation) (r : Observation) → AreNumbered rows → r.number ≡ length rows + 1 → AreNumbered (rows ++ r ∷ [])
numbered-push rows r h e = numbered_from-push 1 rows r h e

get-middle : (lower higher : List Observation) (r : Observation) → slice_get (lower ++ r ∷ higher) (length lower) ≡ Some r
get-middle [] higher r = refl
get-middle (x ∷ lower) higher r = get-middle lower higher r

-- a row's number by its place
number_at : (rows : List Observation) → AreNumbered rows → (k : ℕ) (d : Observation) → k < length rows → (get_or rows k d).number ≡ k + 1
number_at rows h k d lt = h k (get_or rows k d) (slice_get-get_or rows k d lt)

not_below : (rows : List Observation) (number : ℕ) → AreNumbered rows → IsFreeNumber rows number → number < length rows + 1 → ⊥
not_below [] number h free less = omega (arith, free.from_one)
not_below (d ∷ rows) number h free less =
    let one = free.from_one in
    let lt : number - 1 < length (d ∷ rows) = omega arith in
    free.free (number - 1) d lt (omega (arith, number_at (d ∷ rows) h (number - 1) d lt))

not_above : (rows : List Observation) (number : ℕ) → AreNumbered rows → IsFreeNumber rows number → length rows + 1 < number → ⊥
not_above rows number h free more = by rows h (free.least (length rows + 1) (omega arith) more)
  where
    by : (rows : List Observation) → AreNumbered rows → Contains (map (λ (r : Observation). r.number) rows) (length rows + 1) → ⊥
    by [] h (k, lt, e) = omega arith
    by (d ∷ rows) h (k, lt, e) =
        let room : k < length (d ∷ rows) = omega (arith, length-map (d ∷ rows) (λ (r : Observation). r.number)) in
        let there = get_or-map (λ (r : Observation). r.number) (d ∷ rows) k d (length (d ∷ rows) + 1) room in
        omega (arith, there, e, number_at (d ∷ rows) h k d room)

-- behind rows numbered from 1 on, the free number is the next one
next_number : (rows : List Observation) (number : ℕ) → AreNumbered rows → IsFreeNumber rows number → number ≡ length rows + 1
next_number rows number h free = elim (cases_lt number (length rows + 1)) [
  | inl less ↦ absurd (not_below rows number h free less)
  | inr least ↦ elim (cases_lt (length rows + 1) number) [
    | inl more ↦ absurd (not_above rows number h free more)
    | inr most ↦ omega arith
  ]
]

none_higher : (rows lower higher : List Observation) (number : ℕ) → AreNumbered rows → rows ≡ lower ++ higher → number ≡ length rows + 1 → All (λ r. number < r.number) higher → higher ≡ []
none_higher rows lower [] number h e n above = refl
none_higher rows lower (r ∷ higher) number h e n above =
    let is : r.number ≡ length lower + 1 = subst AreNumbered e h (length lower) r (get-middle lower higher r) in
    let over : number < r.number = above 0 r (omega arith) in
    let size = ap length e ∙ length-append lower (r ∷ higher) in
    absurd (omega arith)

-- a study that gains a row has it after its others, under the next number
pub record IsPushed (before : Study) (group : List ℕ) (value : ℤ) (weight : ℕ) (after : Study) : Type 0 where
  pub row : Observation
  pub group_is : row.group ≡ group
  pub value_is : row.value ≡ value
  pub weight_is : row.weight ≡ weight
  pub rows : after.rows ≡ before.rows ++ row ∷ []
  pub number_is : row.number ≡ length before.rows + 1

pub pushed : (s : Study) (group : List ℕ) (value : ℤ) (weight : ℕ) (t : Study) → AreNumbered s.rows → GainsRow s group value weight t → IsPushed s group value weight t
pushed s group value weight t h g =
    let n = next_number s.rows g.number h g.free in
    let none = none_higher s.rows g.lower g.higher g.number h g.parted n g.above in
    let row : Observation = record { number = g.number; group = group; value = value; weight = weight } in
    let all : s.rows ≡ g.lower = g.parted ∙ ap (λ (x : List Observation). g.lower ++ x) none ∙ append-nil g.lower in
    record {
      row = row;
      group_is = refl;
      value_is = refl;
      weight_is = refl;
      rows = ap (λ (u : Study). u.rows) g.gains ∙ ap (λ (x : List Observation). g.lower ++ row ∷ x) none ∙ ap (λ (x : List Observation). x ++ row ∷ []) (sym all);
      number_is = n;
    }
