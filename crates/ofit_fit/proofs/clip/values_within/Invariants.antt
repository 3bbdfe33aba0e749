use Rattle.std.proofs.Common.{◌≡◌, ◌<◌, ℕ, length}
use Rattle.std.specs.Prelude.{slice_get, Some}
use Rattle.ofit_num.specs.Clipped.{clip}
use Rattle.ofit_num.specs.Fraction.{Fraction}
use Rattle.ofit_study.specs.Study.{problem_stated}
use Rattle.ofit_fit.specs.Part.{part_of}
use Rattle.ofit_fit.proofs.clip.values_within.Given as goal

abbrev pub invariant-loop-position : goal.invariant-loop-position
invariant-loop-position l =
    let bounds = (part_of (problem_stated l.study) l.members).bounds in
    record {
      count : length l.within.items ≡ l.position;
      each : (g : ℕ) (f : Fraction) → g < l.position → slice_get l.values g ≡ Some f → slice_get l.within.items g ≡ Some (clip (bounds g).lo (bounds g).hi f);
    }
