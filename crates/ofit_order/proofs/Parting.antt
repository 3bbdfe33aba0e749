-- Rows of the places with one number each.
use Rattle.std.proofs.Common.{◌≡◌, ℕ, ◌+◌, ◌<◌, inl, inr, List, [], length, replicate, slice_index, sym, subst, ap, ◌∙◌, arith}
use Rattle.std.specs.List.{Contains}
use Rattle.std.specs.List.Sorted.{IsStrictlyIncreasing}
use Rattle.std.proofs.lemmas.Bool.{cases_eq, cases_lt}
use Rattle.std.proofs.lemmas.List.{get_or-replicate, get_or_past, length-replicate}
use Rattle.ofit_order.specs.Rows.{row, HasNeighbour, ArePartsBelow}
use Rattle.ofit_order.proofs.Linking.{with_place, row-at, row-other, HasNeighbour-with_place, HasNeighbour-kept, HasNeighbour-placed}
use Rattle.ofit_order.proofs.Seeing.{not_in_nil}
use Rattle.ofit_order.proofs.Counting.{IsStrictlyIncreasing-push}

row-replicate : (n k : ℕ) → row (replicate n []) k ≡ []
row-replicate n k =
    elim (cases_lt k n) [
      | inl below ↦ get_or-replicate n k [] [] below
      | inr above ↦ get_or_past (replicate n []) k [] (rw (length-replicate {A = List ℕ} n []) above)
    ]

pub ArePartsBelow-none : (numbers : List ℕ) (n : ℕ) → ArePartsBelow 0 numbers (replicate n [])
ArePartsBelow-none numbers n = record {
  rising = λ k. subst IsStrictlyIncreasing (sym (row-replicate n k)) (λ j l. absurd (omega arith));
  exact = λ k p. (
    (λ h. absurd (not_in_nil p (subst (λ (r : List ℕ). Contains r p) (row-replicate n k) h))),
    (λ h. absurd (omega (arith, h.0))),
  );
}

pub ArePartsBelow-more : (s : ℕ) (numbers : List ℕ) (rows : List (List ℕ)) → slice_index numbers s < length rows → ArePartsBelow s numbers rows → ArePartsBelow (s + 1) numbers (with_place rows (slice_index numbers s) s)
ArePartsBelow-more s numbers rows l h =
    let x = slice_index numbers s in
    record {
      rising = λ k. elim (cases_eq k x) [
        | inl e ↦
            let up : IsStrictlyIncreasing (row (with_place rows x s) x) =
            subst IsStrictlyIncreasing (sym (row-at rows x s l)) (IsStrictlyIncreasing-push (row rows x) s (h.rising x) (λ y c. ((h.exact x y).0 c).0)) in
            subst (λ (t : ℕ). IsStrictlyIncreasing (row (with_place rows x s) t)) (sym e) up
        | inr n ↦ subst IsStrictlyIncreasing (sym (row-other rows x s k n)) (h.rising k)
      ];
      exact = λ k p. (
        (λ c. elim (HasNeighbour-with_place rows x s k p l c) [
          | inl was ↦ let b = (h.exact k p).0 was in (omega (arith, b.0), b.1)
          | inr e ↦ (omega (arith, e.1), ap (slice_index numbers) e.1 ∙ sym e.0)
        ]),
        (λ c. elim (cases_lt p s) [
          | inl below ↦ HasNeighbour-kept rows x s k p l ((h.exact k p).1 (below, c.1))
          | inr above ↦
              let upto = c.0 in
              let e : s ≡ p = omega arith in
              let f : x ≡ k = ap (slice_index numbers) e ∙ c.1 in
              subst (λ (t : ℕ). HasNeighbour (with_place rows x s) t p) f (subst (HasNeighbour (with_place rows x s) x) e (HasNeighbour-placed rows x s l))
        ]),
      );
    }
