-- How the records to come follow the bytes that are left.
use Rattle.std.proofs.Common.{◌≡◌, ◌≤◌, ◌<◌, ◌+◌, ◌⊎◌, ℕ, zero, suc, List, [], ◌∷◌, Option, Some, None, length, refl, sym, ap, ◌∙◌, inl, inr, arith}
use Rattle.std.proofs.lemmas.Bool.{cases_Bool}
use Rattle.csv.specs.Machine.{Read, next_record, step, is_end, fields_after, field_after, ends_at_end}
use Rattle.csv.specs.Reading.{default_config, records_from}
use Rattle.csv.specs.declared.parser.State.{State}
use Rattle.csv.specs.declared.parser.State.TheVariants as st
use Rattle.ofit_records.specs.Coming.{records_left}

-- a record takes a byte, or stands at the end of the bytes
abbrev Shorter : List ℕ → Option Read → Type 0
Shorter bytes None = Unit {0}
Shorter bytes (Some p) = (length p.2 < length bytes) ⊎ ((p.1 ≡ st.StartRecord) × (p.2 ≡ []))

shorter_more : (b : ℕ) (bytes : List ℕ) (o : Option Read) → Shorter bytes o → Shorter (b ∷ bytes) o
shorter_more b bytes None h = tt
shorter_more b bytes (Some p) (inl h) = inl (omega arith)
shorter_more b bytes (Some p) (inr h) = inr h

record_takes : (s : State) (fields : List (List ℕ)) (field bytes : List ℕ) → Shorter bytes (next_record default_config s fields field bytes)
unfolding next_record
record_takes s fields field [] = elim (cases_Bool (ends_at_end s)) [
  | inl ends ↦ rw ends (inr (refl, refl))
  | inr goes ↦ rw goes tt
]
record_takes s fields field (b ∷ rest) = elim (cases_Bool (is_end (step default_config s b).1)) [
  | inl ends ↦ rw ends (inl (omega arith))
  | inr goes ↦ rw goes (shorter_more b rest _ (record_takes (step default_config s b).0 (fields_after (step default_config s b).1 fields field) (field_after (step default_config s b).1 b field) rest))
]

none_at_end : (n : ℕ) → records_from default_config n st.StartRecord [] ≡ []
unfolding records_from next_record
none_at_end zero = refl
none_at_end (suc n) = refl

from_some : (n : ℕ) (s : State) (bytes : List ℕ) (p : Read) → next_record default_config s [] [] bytes ≡ Some p
    → records_from default_config (suc n) s bytes ≡ p.0 ∷ records_from default_config n p.1 p.2
unfolding records_from
from_some n s bytes p e = rw e refl

from_none : (n : ℕ) (s : State) (bytes : List ℕ) → next_record default_config s [] [] bytes ≡ None → records_from default_config (suc n) s bytes ≡ []
unfolding records_from
from_none n s bytes e = rw e refl

abbrev Agree : ℕ → ℕ → List ℕ → Type 0
Agree n m bytes = (s : State) (rest : List ℕ) → length rest < length bytes → records_from default_config n s rest ≡ records_from default_config m s rest

agree_behind : (n m : ℕ) (bytes : List ℕ) (p : Read) → Shorter bytes (Some p) → Agree n m bytes → records_from default_config n p.1 p.2 ≡ records_from default_config m p.1 p.2
agree_behind n m bytes p (inl less) same = same p.1 p.2 less
agree_behind n m bytes p (inr end) same = rw (end.0, end.1) (none_at_end n ∙ sym (none_at_end m))

agree_now : (n m : ℕ) (s : State) (bytes : List ℕ) (o : Option Read) → next_record default_config s [] [] bytes ≡ o → Shorter bytes o → Agree n m bytes
    → records_from default_config (suc n) s bytes ≡ records_from default_config (suc m) s bytes
agree_now n m s bytes None e q same = from_none n s bytes e ∙ sym (from_none m s bytes e)
agree_now n m s bytes (Some p) e q same =
    from_some n s bytes p e ∙ ap (λ (t : List (List (List ℕ))). p.0 ∷ t) (agree_behind n m bytes p q same) ∙ sym (from_some m s bytes p e)

-- any count of turns that is above the bytes' count gives all of the records
enough : (n m : ℕ) (s : State) (bytes : List ℕ) → length bytes < n → length bytes < m → records_from default_config n s bytes ≡ records_from default_config m s bytes
enough zero m s bytes h k = absurd (omega arith)
enough (suc n) zero s bytes h k = absurd (omega arith)
enough (suc n) (suc m) s bytes h k =
    agree_now n m s bytes (next_record default_config s [] [] bytes) refl (record_takes s [] [] bytes) (λ z rest less. enough n m z rest (omega arith) (omega arith))

pub left_more : (s : State) (bytes : List ℕ) (p : Read) → next_record default_config s [] [] bytes ≡ Some p → records_left s (Some bytes) ≡ p.0 ∷ records_left p.1 (Some p.2)
unfolding records_left
left_more s bytes p e =
    let grown : length bytes + 1 ≡ suc (length bytes) = omega arith in
    let least : length p.2 + 1 ≡ suc (length p.2) = omega arith in
    let took : Shorter bytes (Some p) = rw e at (record_takes s [] [] bytes) in
    ap (λ (t : ℕ). records_from default_config t s bytes) grown ∙ from_some (length bytes) s bytes p e
    ∙ ap (λ (t : List (List (List ℕ))). p.0 ∷ t) (after took)
  where
    after : Shorter bytes (Some p) → records_from default_config (length bytes) p.1 p.2 ≡ records_from default_config (length p.2 + 1) p.1 p.2
    after (inl less) = enough (length bytes) (length p.2 + 1) p.1 p.2 (omega arith) (omega arith)
    after (inr end) = rw (end.0, end.1) (none_at_end (length bytes) ∙ sym (none_at_end 1))

pub left_none : (s : State) (bytes : List ℕ) → next_record default_config s [] [] bytes ≡ None → records_left s (Some bytes) ≡ []
unfolding records_left
left_none s bytes e =
    let grown : length bytes + 1 ≡ suc (length bytes) = omega arith in
    ap (λ (t : ℕ). records_from default_config t s bytes) grown ∙ from_none (length bytes) s bytes e

pub left_unknown : (s : State) → records_left s None ≡ []
unfolding records_left
left_unknown s = refl

abbrev Few : ℕ → List ℕ → Type 0
Few n bytes = (s : State) (rest : List ℕ) → length rest < length bytes → length (records_from default_config n s rest) ≤ length rest + 1

few_behind : (n : ℕ) (bytes : List ℕ) (p : Read) → Shorter bytes (Some p) → Few n bytes → length (records_from default_config n p.1 p.2) ≤ length bytes
few_behind n bytes p (inl less) few = omega (arith, few p.1 p.2 less)
few_behind n bytes p (inr end) few = rw (end.0, end.1, none_at_end n) (omega arith)

few_now : (n : ℕ) (s : State) (bytes : List ℕ) (o : Option Read) → next_record default_config s [] [] bytes ≡ o → Shorter bytes o → Few n bytes
    → length (records_from default_config (suc n) s bytes) ≤ length bytes + 1
few_now n s bytes None e q few = rw (from_none n s bytes e) (omega arith)
few_now n s bytes (Some p) e q few = rw (from_some n s bytes p e) (omega (arith, few_behind n bytes p q few))

-- the records are no more than the bytes and one
count_from : (n : ℕ) (s : State) (bytes : List ℕ) → length (records_from default_config n s bytes) ≤ length bytes + 1
unfolding records_from
count_from zero s bytes = omega arith
count_from (suc n) s bytes =
    few_now n s bytes (next_record default_config s [] [] bytes) refl (record_takes s [] [] bytes) (λ z rest less. count_from n z rest)

pub count_left : (s : State) (bytes : List ℕ) → length (records_left s (Some bytes)) ≤ length bytes + 1
unfolding records_left
count_left s bytes = count_from (length bytes + 1) s bytes
