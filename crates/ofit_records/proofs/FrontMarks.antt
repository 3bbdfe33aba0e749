-- Byte order marks at the front of a text.
use Rattle.std.proofs.Common.{◌≡◌, ◌≤◌, ◌∙◌, arith, length, ℕ, Bool, List, [], ◌∷◌, take, drop, nat_eq, refl, sym, true, false}
use Rattle.std.specs.Prelude.{◌==◌, ◌&&◌}
use Rattle.std.specs.Cmp.Lexicographic.{pointwise}
use Rattle.csv.specs.Reading.{is_bom, strip_bom}
use Rattle.ofit_records.specs.Records.{without_marks}

abbrev begins_marked : List ℕ → Bool
begins_marked bytes = pointwise nat_eq (take 3 bytes) (239 ∷ 187 ∷ 191 ∷ [])

same_test : (a b c : ℕ) (rest : List ℕ) → begins_marked (a ∷ b ∷ c ∷ rest) ≡ is_bom a b c
same_test a b c rest = by (a == 239) (b == 187) (c == 191)
  where
    by : (x y z : Bool) → (x && (y && (z && true))) ≡ ((x && y) && z)
    by true true true = refl
    by true true false = refl
    by true false z = refl
    by false y z = refl

-- behind a mark
pub one_taken : (bytes : List ℕ) → begins_marked bytes ≡ true → without_marks (drop 3 bytes) ≡ without_marks bytes
unfolding without_marks
one_taken [] e = cc
one_taken (a ∷ []) e = absurd (short (a == 239) e)
  where
    short : (x : Bool) → (x && false) ≡ true → ⊥
    short true q = cc
    short false q = cc
one_taken (a ∷ b ∷ []) e = absurd (short (a == 239) (b == 187) e)
  where
    short : (x y : Bool) → (x && (y && false)) ≡ true → ⊥
    short true true q = cc
    short true false q = cc
    short false y q = cc
one_taken (a ∷ b ∷ c ∷ rest) e =
    let mark = sym (same_test a b c rest) ∙ e in
    rw mark refl

-- where no mark stands at the front
pub none_taken : (bytes : List ℕ) → begins_marked bytes ≡ false → bytes ≡ without_marks bytes
unfolding without_marks
none_taken [] e = refl
none_taken (a ∷ []) e = refl
none_taken (a ∷ b ∷ []) e = refl
none_taken (a ∷ b ∷ c ∷ rest) e =
    let other = sym (same_test a b c rest) ∙ e in
    rw other refl

-- no mark is left for csv to take away
pub none_left : (bytes : List ℕ) → strip_bom (without_marks bytes) ≡ without_marks bytes
unfolding without_marks strip_bom
none_left [] = refl
none_left (a ∷ []) = refl
none_left (a ∷ b ∷ []) = refl
none_left (a ∷ b ∷ c ∷ rest) = by (is_bom a b c) refl (none_left rest)
  where
    by : (mark : Bool) → is_bom a b c ≡ mark → strip_bom (without_marks rest) ≡ without_marks rest → strip_bom (without_marks (a ∷ b ∷ c ∷ rest)) ≡ without_marks (a ∷ b ∷ c ∷ rest)
    by true mark h = rw mark h
    by false other h = rw (other, other) refl

pub no_longer : (bytes : List ℕ) → length (without_marks bytes) ≤ length bytes
unfolding without_marks
no_longer [] = omega arith
no_longer (a ∷ []) = omega arith
no_longer (a ∷ b ∷ []) = omega arith
no_longer (a ∷ b ∷ c ∷ rest) = by (is_bom a b c) refl (no_longer rest)
  where
    by : (mark : Bool) → is_bom a b c ≡ mark → length (without_marks rest) ≤ length rest → length (without_marks (a ∷ b ∷ c ∷ rest)) ≤ length (a ∷ b ∷ c ∷ rest)
    by true mark h = rw mark (omega arith)
    by false other h = rw other (omega arith)
