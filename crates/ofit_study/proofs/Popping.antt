-- What is put at the end and taken away again.
use Rattle.std.proofs.Common.{◌≡◌, ℕ, ◌+◌, ◌-◌, List, [], ◌∷◌, ◌++◌, ap, ◌∙◌, arith, length, take}
use Rattle.std.proofs.Math.Seq.{take-append_seam}

pub popped : {A : Type 0} (xs : List A) (x : A) (ys : List A) (n : ℕ) → ys ≡ xs ++ x ∷ [] → n ≡ length xs + 1 → take (n - 1) ys ≡ xs
popped xs x ys n pushed counted =
    rw (pushed, counted) (ap (λ (k : ℕ). take k (xs ++ x ∷ [])) (omega arith) ∙ take-append_seam xs (x ∷ []))
