-- The exit statuses.
use Rattle.std.specs.Prelude.{ℕ}
use Rattle.ofit_answer.specs.declared.answer.Answer.{Answer}
use Rattle.ofit_answer.specs.declared.answer.Answer.TheVariants.{Done, Fails, FailsPeak, Words, Refused, ReadFault, WriteFault, Memory}

abbrev pub status_of : Answer → ℕ
status_of Done = 0
status_of (Fails verdict) = 1
status_of (FailsPeak verdict) = 1
status_of (Words fault) = 2
status_of (Refused refusal) = 3
status_of ReadFault = 4
status_of WriteFault = 5
status_of Memory = 6
