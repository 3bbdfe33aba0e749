-- A study with the values of its groups, as a session is seen.
use Rattle.std.specs.Prelude.{List}
use Rattle.ofit_num.specs.Fit.{LeastBestValues}
use Rattle.ofit_num.specs.Fraction.{Fraction}
use Rattle.ofit_study.specs.Study.{Study, meaning_of, problem_stated}

pub record Fitted : Type 0 where
  pub study : Study
  pub values : List Fraction

-- the values are the study's pointwise least best ones
abbrev pub IsFit : Study → List Fraction → Type 0
IsFit s values = LeastBestValues (meaning_of s.settings.loss) (problem_stated s) values
