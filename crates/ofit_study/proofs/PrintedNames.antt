-- Printed bytes of ASCII are a text without control bytes.
use Rattle.std.proofs.Common.{ℕ, zero, suc, ◌≤◌, ◌<◌, List, [], ◌∷◌, All, IsUtf8, arith}
use Rattle.std.specs.Str.{IsAscii}
use Rattle.std.proofs.lemmas.Str.{IsUtf8-from_ascii}
use Rattle.ofit_study.specs.Name.{IsNameByte}

ascii : (bytes : List ℕ) → All (λ b. (32 ≤ b) × (b < 127)) bytes → IsAscii bytes
ascii [] h i = omega arith
ascii (b ∷ bytes) h zero = omega (arith, (h 0 0 (omega arith)).1)
ascii (b ∷ bytes) h (suc i) = ascii bytes (λ k d l. h (suc k) d (omega (arith, l))) i

pub printed : (bytes : List ℕ) → All (λ b. (32 ≤ b) × (b < 127)) bytes → All IsNameByte bytes × IsUtf8 bytes
printed bytes h = (λ k d l. ((h k d l).0, λ e. omega (arith, (h k d l).1, e)), IsUtf8-from_ascii bytes (ascii bytes h))
