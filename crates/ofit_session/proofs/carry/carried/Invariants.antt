use Rattle.std.proofs.Common.{◌≡◌, ◌<◌, ℕ, List, length, slice_get, Some}
use Rattle.ofit_study.specs.Study.{names_of}
use Rattle.ofit_session.proofs.carry.carried.Given as goal

abbrev pub invariant-loop-place : goal.invariant-loop-place
invariant-loop-place l =
    (length l.own.items ≡ l.place)
    × ((g p : ℕ) (name : List ℕ) → g < l.place → slice_get (names_of l.after) g ≡ Some name → slice_get (names_of l.before) p ≡ Some name → slice_get l.own.items g ≡ slice_get l.values p)
