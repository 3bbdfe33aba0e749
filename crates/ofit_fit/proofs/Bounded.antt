-- The values of a component without bounds, cut off at the study's bounds, are its least best values within them.
use Rattle.std.proofs.Common.{ℕ, zero, suc, ◌<◌, refl, arith, List, [], ◌∷◌, length, slice_index}
use Rattle.std.proofs.lemmas.List.Elements.{All-head, All-tail}
use Rattle.std.specs.Prelude.{All, slice_get, unwrap_or}
use Rattle.ofit_num.specs.declared.row.Row.{Row}
use Rattle.ofit_num.specs.Fraction.{Fraction}
use Rattle.ofit_num.specs.Fit.{LeastBestValues}
use Rattle.ofit_num.specs.Loss.{row_sum}
use Rattle.ofit_num.specs.Unbounded.{no_bounds, without_bounds}
use Rattle.ofit_num.specs.Clipped.{AreClipped}
use Rattle.ofit_num.proofs.ClippedTable.{cut_off_least}
use Rattle.ofit_order.specs.Relation.{Relation}
use Rattle.ofit_loss.specs.TableLaws.{some_weight}
use Rattle.ofit_loss.proofs.ProblemLaws.{groups_fittable}
use Rattle.ofit_study.specs.Study.{Study, IsValid, groups_of, places_of, problem_stated, meaning_of}
use Rattle.ofit_span.proofs.StatedLosses.{one_of_two}
use Rattle.ofit_fit.specs.Part.{part_of}
use Rattle.ofit_fit.specs.Piece.{IsFittable, ArePlaces}
use Rattle.ofit_fit.proofs.Closed.{part_of-IsPart}
use Rattle.ofit_fit.proofs.Ready.{places_closed}

filled_at : (groups : List (List Row)) (g : ℕ) → g < length groups → All (λ rows. 0 < length rows) groups → 0 < length (unwrap_or (slice_get groups g) [])
filled_at [] g l h = absurd (omega arith)
filled_at (rows ∷ groups) zero l h = All-head (λ (r : List Row). 0 < length r) rows groups h
filled_at (rows ∷ groups) (suc g) l h = filled_at groups g (omega arith) (All-tail (λ (r : List Row). 0 < length r) rows groups h)

pub bounded : (s : Study) (order : Relation) → IsValid s → IsFittable s order → (members : List ℕ) → ArePlaces s order members → (values within : List Fraction)
    → LeastBestValues (meaning_of s.settings.loss) (part_of (without_bounds (problem_stated s)) members) values → AreClipped (part_of (problem_stated s) members) values within
    → LeastBestValues (meaning_of s.settings.loss) (part_of (problem_stated s) members) within
bounded s order valid fit members places values within least are =
    cut_off_least (meaning_of s.settings.loss) (one_of_two s.settings.loss) (part_of (problem_stated s) members) s.settings.lo s.settings.hi values within
    (part_of-IsPart (without_bounds (problem_stated s)) members (places_closed s order fit members places)).places (record { each = λ g l. refl }) valid.settings.order weights least are
  where
    weights : (g : ℕ) → g < length members → 0 < row_sum (λ r. r.weight) ((problem_stated s).rows (slice_index members g))
    weights g l =
        let at : slice_index members g < length (groups_of s) = places.inside g 0 l in
        some_weight _ ((groups_fittable (groups_of s) (places_of s) no_bounds fit.fittable).groups (slice_index members g) at).limits (filled_at (groups_of s) (slice_index members g) at fit.filled)
