-- The amounts of steps that were read.
use Rattle.std.proofs.Common.{◌≡◌, ℕ, suc, ◌+◌, ◌-◌, ℤ, pos, List, [], ◌∷◌, ◌++◌, length, refl, sym, ap, subst, ◌∙◌, length-append, arith}
use Rattle.std.specs.Prelude.{All, IfSome, slice_get, ◌≤ℤ◌, Some}
use Rattle.std.proofs.lemmas.Int.{ints}
use Rattle.std.proofs.lemmas.List.Elements.{All-append, All-cons, All-nil}
use Rattle.ofit_sheet.specs.Peaked.{IsSide}
use Rattle.ofit_sheet.specs.Slots.{step_slot}
use Rattle.ofit_sheet.specs.PeakedRead.{step_item}
use Rattle.ofit_sheet.specs.PeakedSteps.{AreSpelled, Takes}

same_amount : (y a z b : ℤ) → step_item y a ≡ step_item z b → a ≡ b
same_amount y a z b e = cc

spelled_amount : (names : List (List ℕ)) (place : ℕ) (value amount : ℤ) (done : List (List (List ℕ))) → AreSpelled names (step_slot place ∷ []) done (step_item value amount ∷ []) → pos 0 ≤ℤ amount
spelled_amount names place value amount [] h = absurd h
spelled_amount names place value amount (row ∷ done) h =
    let s = h.0.0 in
    let whole : amount ≡ pos s.3.size = same_amount value amount s.0 s.1 s.2 ∙ s.3.is_size in
    omega (arith, ints, whole)

pub step_amount : (names : List (List ℕ)) (place : ℕ) (value amount : ℤ) (n0 n1 : ℕ) (rows left : List (List (List ℕ))) → Takes names (step_slot place ∷ []) (step_item value amount ∷ []) n0 rows n1 left → pos 0 ≤ℤ amount
step_amount names place value amount n0 n1 rows left t = spelled_amount names place value amount t.done t.spelled

last_behind : (xs : List (ℤ × ℤ)) (x : ℤ × ℤ) → slice_get (xs ++ x ∷ []) (length xs) ≡ Some x
last_behind [] x = refl
last_behind (y ∷ xs) x = last_behind xs x

-- steps and a last one of the amount 0 are a side
pub side_made : (count : ℕ) (first all : List (ℤ × ℤ)) (value : ℤ) → length first ≡ count → All (λ s. pos 0 ≤ℤ s.1) first → all ≡ first ++ (value, pos 0) ∷ [] → IsSide (suc count) all
side_made count first all value l h e =
    let last : ℤ × ℤ = (value, pos 0) in
    let long : length (first ++ last ∷ []) ≡ length first + 1 = length-append first (last ∷ []) in
    let at : length (first ++ last ∷ []) - 1 ≡ length first = omega (arith, long) in
    subst (IsSide (suc count)) (sym e)
    (record {
      count = omega (arith, long, l);
      amounts = All-append (λ (s : ℤ × ℤ). pos 0 ≤ℤ s.1) first (last ∷ []) h (All-cons (λ (s : ℤ × ℤ). pos 0 ≤ℤ s.1) last [] (omega (arith, ints)) (All-nil (λ (s : ℤ × ℤ). pos 0 ≤ℤ s.1)));
      last = subst (λ o. IfSome o (λ (s : ℤ × ℤ). s.1 ≡ pos 0)) (sym (ap (slice_get (first ++ last ∷ [])) at ∙ last_behind first last)) refl;
    })
