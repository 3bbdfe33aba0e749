-- What `sample` gives: the summary of a made study.
use Rattle.std.specs.Prelude.{◌≡◌, ℕ, List}
use Rattle.ofit_words.specs.declared.job.SampleJob.{SampleJob}
use Rattle.ofit_sample.specs.SampleText.{SampleText}
use Rattle.ofit_answer.specs.declared.answer.Answer.{Answer}
use Rattle.ofit_answer.specs.declared.answer.Answer.TheVariants.{Done}

abbrev pub SampleGives : SampleJob → Answer → List ℕ → Type 0
SampleGives made answer text = (answer ≡ Done) × SampleText made text
