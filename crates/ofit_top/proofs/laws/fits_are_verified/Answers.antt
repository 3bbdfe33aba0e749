use Rattle.std.specs.Prelude.{codes}
use Rattle.ofit_answer.specs.declared.answer.Answer.TheVariants.{Done}
use Rattle.ofit_top.proofs.Verified.{fit_verified}
use Rattle.ofit_top.proofs.laws.fits_are_verified.Goals as goal

pub returns : goal.returns
returns c = record {
  passes = λ words other inputs name text fits h after asked run apart more again.
      fit_verified h after name text more words other inputs fits (c.words_have_one_reading.ensures words) apart asked run again;
  nothing_else = λ words other inputs name text fits h after asked run apart more again answer line n ends.
      c.runs_end_in_one_way.ensures.answer other after answer Done line (codes "passes\n") n 0 ends
      (fit_verified h after name text more words other inputs fits (c.words_have_one_reading.ensures words) apart asked run again);
}
