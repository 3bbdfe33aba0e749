-- How the faults of a run's steps end it.
use Rattle.ofit_words.specs.declared.fault.WordFault.{WordFault}
use Rattle.ofit_words.specs.declared.fault.WordFault.TheVariants as word
use Rattle.ofit_input.specs.declared.stop.Stop.{Stop}
use Rattle.ofit_input.specs.declared.stop.Stop.TheVariants as stop
use Rattle.ofit_answer.specs.declared.answer.Answer.{Answer}
use Rattle.ofit_answer.specs.declared.answer.Answer.TheVariants.{Words, Refused, ReadFault, Memory}

-- of the words, where want of memory is no fault of theirs
abbrev pub word_answer : WordFault → Answer
word_answer word.Memory = Memory
word_answer fault = Words fault

-- of the files
abbrev pub stop_answer : Stop → Answer
stop_answer (stop.Refused refusal) = Refused refusal
stop_answer stop.ReadFault = ReadFault
stop_answer stop.Memory = Memory
