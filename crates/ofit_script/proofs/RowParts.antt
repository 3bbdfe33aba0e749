-- Rows by rising number are parted in one way at a number, and stay so after an edit.
use Rattle.std.proofs.Common.{◌≡◌, ℕ, ◌<◌, inl, inr, List, [], ◌∷◌, ◌++◌, refl, sym, ap, ◌∙◌, subst, arith, map, ℤ}
use Rattle.std.proofs.lemmas.Bool.{cases_order}
use Rattle.std.proofs.lemmas.List.{append_cancel_left}
use Rattle.std.proofs.lemmas.List.Elements.{All-nil, All-cons, All-head, All-tail, All-append, All-weaker, All-contains, Contains-append_right}
use Rattle.std.specs.Prelude.{All, AllPairs, Contains}
use Rattle.ofit_num.proofs.Members.{cons_first, from_map}
use Rattle.ofit_num.proofs.Partings.{at_one, first_shorter, second_shorter, parted, head_same, tail_same}
use Rattle.ofit_num.proofs.Sheets.{AllPairs-head}
use Rattle.ofit_study.specs.declared.edit.Edit.{Edit}
use Rattle.ofit_study.specs.declared.edit.Edit.TheVariants.{Add, Remove, Value, Weight, Relate, Unrelate}
use Rattle.ofit_study.specs.Edited.{HasRow, IsAfter, with_value, with_weight}
use Rattle.ofit_study.specs.Study.{Observation, Study, GainsRow, IsFreeNumber}
use Rattle.ofit_study.proofs.Splicing.{All-right, AllPairs-across, AllPairs-append, AllPairs-left, AllPairs-right}

abbrev pub Rises : Observation → Observation → Type 0
Rises a b = a.number < b.number

abbrev pub AreRising : List Observation → Type 0
AreRising rows = AllPairs Rises rows

-- what stands before a row is below it
below_row : (lower higher : List Observation) (r q : Observation) → AreRising (lower ++ r ∷ higher) → Contains lower q → q.number < r.number
below_row lower higher r q rising c =
    All-head (Rises q) r higher (All-contains (λ a. All (Rises a) (r ∷ higher)) lower q (AllPairs-across Rises lower (r ∷ higher) rising) c)

-- the parts at a row are the same
pub record SameRow {s : Study} {number : ℕ} (a b : HasRow s number) : Type 0 where
  pub lower : a.lower ≡ b.lower
  pub row : a.row ≡ b.row
  pub higher : a.higher ≡ b.higher

twice : (xs zs t ys : List Observation) (x z : Observation) (n : ℕ) → AreRising (zs ++ z ∷ ys) → zs ≡ xs ++ x ∷ t → x.number ≡ n → z.number ≡ n → ⊥
twice xs zs t ys x z n rising e p q =
    let there : Contains zs x = subst (λ (u : List Observation). Contains u x) (sym e) (Contains-append_right xs (x ∷ t) x (cons_first t x)) in
    absurd (omega (arith, below_row zs ys z x rising there, p, q))

pub row_one : (s : Study) (number : ℕ) → AreRising s.rows → (a b : HasRow s number) → SameRow a b
row_one s number rising a b =
    elim (parted a.lower b.lower a.higher b.higher a.row b.row (sym a.parted ∙ b.parted)) [
      | at_one e x ↦
          let whole : b.lower ++ a.row ∷ a.higher ≡ b.lower ++ b.row ∷ b.higher = ap (λ (t : List Observation). t ++ a.row ∷ a.higher) (sym e) ∙ sym a.parted ∙ b.parted in
          let rest : a.higher ≡ b.higher = tail_same a.row b.row a.higher b.higher (append_cancel_left b.lower (a.row ∷ a.higher) (b.row ∷ b.higher) whole) in
          record { lower = e; row = x; higher = rest }
      | first_shorter t e ↦ absurd (twice a.lower b.lower t b.higher a.row b.row number (subst AreRising b.parted rising) e a.is b.is)
      | second_shorter t e ↦ absurd (twice b.lower a.lower t a.higher b.row a.row number (subst AreRising a.parted rising) e b.is a.is)
    ]

-- there is one least free number
not_free : (rows : List Observation) (k : ℕ) → All (λ r. r.number ≡ k → ⊥) rows → Contains (map (λ r. r.number) rows) k → ⊥
not_free rows k free c =
    let r = from_map (λ (q : Observation). q.number) rows k c in
    All-contains (λ q. q.number ≡ k → ⊥) rows r.0 free r.1 r.2

free_one : (rows : List Observation) (a b : ℕ) → IsFreeNumber rows a → IsFreeNumber rows b → a ≡ b
free_one rows a b h k =
    elim (cases_order a b) [
      | inl e ↦ e
      | inr (inl l) ↦ absurd (not_free rows a h.free (k.least a h.from_one l))
      | inr (inr l) ↦ absurd (not_free rows b k.free (h.least b k.from_one l))
    ]

-- rows are parted in one way at a number that none has
record SameCut (a b c d : List Observation) : Type 0 where
  lower : a ≡ c
  higher : b ≡ d

cut_one : (n : ℕ) (a b c d : List Observation) → a ++ b ≡ c ++ d → All (λ r. r.number < n) a → All (λ r. n < r.number) b → All (λ r. r.number < n) c → All (λ r. n < r.number) d → SameCut a b c d
cut_one n [] b [] d e p q u v = record { lower = refl; higher = e }
cut_one n [] b (y ∷ c) d e p q u v =
    absurd (omega (arith, All-head (λ r. n < r.number) y (c ++ d) (subst (All (λ r. n < r.number)) e q), All-head (λ r. r.number < n) y c u))
cut_one n (x ∷ a) b [] d e p q u v =
    absurd (omega (arith, All-head (λ r. n < r.number) x (a ++ b) (subst (All (λ r. n < r.number)) (sym e) v), All-head (λ r. r.number < n) x a p))
cut_one n (x ∷ a) b (y ∷ c) d e p q u v =
    let rest = cut_one n a b c d (tail_same x y (a ++ b) (c ++ d) e) (All-tail (λ r. r.number < n) x a p) q (All-tail (λ r. r.number < n) y c u) v in
    let first : x ≡ y = head_same x y (a ++ b) (c ++ d) e in
    record { lower = (λ i. first i ∷ rest.lower i); higher = rest.higher }

-- a study gains a row in one way
pub gain_one : (s : Study) (group : List ℕ) (value : ℤ) (weight : ℕ) (a b : Study) → GainsRow s group value weight a → GainsRow s group value weight b → a ≡ b
gain_one s group value weight a b h k =
    let number : h.number ≡ k.number = free_one s.rows h.number k.number h.free k.free in
    let cut : SameCut h.lower h.higher k.lower k.higher =
    cut_one h.number h.lower h.higher k.lower k.higher (sym h.parted ∙ k.parted) h.below h.above
    (subst (λ (n : ℕ). All (λ r. r.number < n) k.lower) (sym number) k.below)
    (subst (λ (n : ℕ). All (λ r. n < r.number) k.higher) (sym number) k.above) in
    let lower : h.lower ≡ k.lower = cut.lower in
    let higher : h.higher ≡ k.higher = cut.higher in
    let row : ℕ → Observation = (λ n. record { number = n; group = group; value = value; weight = weight }) in
    let moved : ◌≡◌ {A = Study} (record s { rows = h.lower ++ row h.number ∷ h.higher }) (record s { rows = k.lower ++ row k.number ∷ k.higher }) = (λ i. record s { rows = lower i ++ row (number i) ∷ higher i }) in
    h.gains ∙ moved ∙ sym k.gains

-- other rows at and about a place
rising_spliced : (lower old new higher : List Observation) → AreRising (lower ++ (old ++ higher)) → AreRising new → All (λ a. All (Rises a) new) lower → All (λ a. All (Rises a) higher) new → AreRising (lower ++ (new ++ higher))
rising_spliced lower old new higher rising inside below above =
    AllPairs-append Rises lower (new ++ higher) (AllPairs-left Rises lower (old ++ higher) rising)
    (AllPairs-append Rises new higher inside (AllPairs-right Rises old higher (AllPairs-right Rises lower (old ++ higher) rising)) above)
    (both lower below apart)
  where
    apart : All (λ a. All (Rises a) higher) lower
    apart = All-weaker (λ a. All (Rises a) (old ++ higher)) (λ a. All (Rises a) higher) (λ a h. All-right (Rises a) old higher h) lower (AllPairs-across Rises lower (old ++ higher) rising)

    both : (xs : List Observation) → All (λ a. All (Rises a) new) xs → All (λ a. All (Rises a) higher) xs → All (λ a. All (Rises a) (new ++ higher)) xs
    both [] p q = All-nil (λ a. All (Rises a) (new ++ higher))
    both (x ∷ xs) p q =
        All-cons (λ a. All (Rises a) (new ++ higher)) x xs
        (All-append (Rises x) new higher (All-head (λ a. All (Rises a) new) x xs p) (All-head (λ a. All (Rises a) higher) x xs q))
        (both xs (All-tail (λ a. All (Rises a) new) x xs p) (All-tail (λ a. All (Rises a) higher) x xs q))

alone : (r : Observation) → AreRising (r ∷ [])
alone r = λ i j d l k. absurd (omega arith)

one_all : (P : Observation → Type 0) (r : Observation) → P r → All P (r ∷ [])
one_all P r h = All-cons P r [] h (All-nil P)

-- a row in place of one of its number
rising_changed : (s : Study) (number : ℕ) → AreRising s.rows → (at : HasRow s number) (r : Observation) → r.number ≡ at.row.number → AreRising (at.lower ++ (r ∷ at.higher))
rising_changed s number rising at r is =
    rising_spliced at.lower (at.row ∷ []) (r ∷ []) at.higher whole (alone r)
    (All-weaker (λ a. All (Rises a) (at.row ∷ at.higher)) (λ a. All (Rises a) (r ∷ []))
    (λ a h. one_all (Rises a) r (omega (arith, is, All-head (Rises a) at.row at.higher h))) at.lower (AllPairs-across Rises at.lower (at.row ∷ at.higher) whole))
    (one_all (λ a. All (Rises a) at.higher) r (subst (λ (n : ℕ). All (λ b. n < b.number) at.higher) (sym is) (AllPairs-head Rises at.row at.higher (AllPairs-right Rises at.lower (at.row ∷ at.higher) whole))))
  where
    whole : AreRising (at.lower ++ at.row ∷ at.higher)
    whole = subst AreRising at.parted rising

rows_of : (s t : Study) (rows : List Observation) → t ≡ record s { rows = rows } → AreRising rows → AreRising t.rows
rows_of s t rows e h = subst (λ (u : Study). AreRising u.rows) (sym e) h

-- rows rise after an edit
pub rising_after : (s : Study) (edit : Edit) (after : Study) → AreRising s.rows → IsAfter s edit after → AreRising after.rows
rising_after s (Add group value weight) after rising h = rows_of s after (h.lower ++ r ∷ h.higher) h.gains spliced
  where
    r : Observation
    r = record { number = h.number; group = group; value = value; weight = weight }

    spliced : AreRising (h.lower ++ r ∷ h.higher)
    spliced =
        rising_spliced h.lower [] (r ∷ []) h.higher (subst AreRising h.parted rising) (alone r)
        (All-weaker (λ a. a.number < h.number) (λ a. All (Rises a) (r ∷ [])) (λ a l. one_all (Rises a) r l) h.lower h.below)
        (one_all (λ a. All (Rises a) h.higher) r h.above)
rising_after s (Remove number) after rising (at, e) = rows_of s after (at.lower ++ ([] ++ at.higher)) e gone
  where
    gone : AreRising (at.lower ++ ([] ++ at.higher))
    gone =
        rising_spliced at.lower (at.row ∷ []) [] at.higher (subst AreRising at.parted rising) (λ i j d l k. absurd (omega arith))
        (All-weaker (λ a. All (Rises a) (at.row ∷ at.higher)) (λ a. All (Rises a) []) (λ a l. All-nil (Rises a)) at.lower (AllPairs-across Rises at.lower (at.row ∷ at.higher) (subst AreRising at.parted rising)))
        (All-nil (λ a. All (Rises a) at.higher))
rising_after s (Value number value) after rising (at, e) = rows_of s after (at.lower ++ ((with_value at.row value ∷ []) ++ at.higher)) e (rising_changed s number rising at (with_value at.row value) refl)
rising_after s (Weight number weight) after rising (at, e) = rows_of s after (at.lower ++ ((with_weight at.row weight ∷ []) ++ at.higher)) e (rising_changed s number rising at (with_weight at.row weight) refl)
rising_after s (Relate low high) after rising h = subst (λ (u : Study). AreRising u.rows) (sym h.others) rising
rising_after s (Unrelate low high) after rising h = subst (λ (u : Study). AreRising u.rows) (sym h.others) rising
