-- The order of pairs of places.
use Rattle.std.specs.Prelude.{ℕ, List}
use Rattle.std.specs.Cmp.Lexicographic.{slice_cmp}
use Rattle.std.specs.Ordering.{nat_cmp, ordering_then}
use Rattle.std.specs.declared.cmp.Ordering.{Ordering}
use Rattle.ofit_study.specs.Kept.{name_at}

abbrev pub text_order : List ℕ → List ℕ → Ordering
text_order = slice_cmp nat_cmp

-- by the names of low, then of high, then by the places
abbrev pub pair_order : List (List ℕ) → ℕ × ℕ → ℕ × ℕ → Ordering
pair_order names e f =
    ordering_then (ordering_then (text_order (name_at names e.0) (name_at names f.0)) (text_order (name_at names e.1) (name_at names f.1))) (ordering_then (nat_cmp e.0 f.0) (nat_cmp e.1 f.1))
