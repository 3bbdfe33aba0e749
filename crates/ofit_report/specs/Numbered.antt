-- Each group with its block.
use Rattle.std.specs.Prelude.{◌≡◌, ◌<◌, ℕ, List, length, slice_index}
use Rattle.ofit_num.specs.Fraction.{Fraction}
use Rattle.ofit_study.specs.Study.{Study, names_of}
use Rattle.ofit_report.specs.Blocks.{IsBlockOf}

-- each group's block
pub record AreBlocks (s : Study) (values : List Fraction) (blocks : List ℕ) : Type 0 where
  pub count : length blocks ≡ length (names_of s)
  pub each : (g : ℕ) → g < length (names_of s) → IsBlockOf s values (slice_index blocks g) g
