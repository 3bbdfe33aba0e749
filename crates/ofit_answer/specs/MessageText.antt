-- The text of a message, by its parts.
use Rattle.std.specs.Prelude.{ℕ, List}
use Rattle.ofit_answer.specs.ErrorText.{at_word, of_file, of_column, at_record}
use Rattle.ofit_answer.specs.declared.message.Message.{Message}
use Rattle.ofit_answer.specs.declared.message.Message.TheVariants.{Plain, AtWord, OfFile, OfColumn, AtRecord}

abbrev pub message_text : Message → List ℕ
message_text (Plain words) = words.now
message_text (AtWord words place) = at_word words.now place
message_text (OfFile file words) = of_file file words.now
message_text (OfColumn file words column) = of_column file words.now column
message_text (AtRecord file number words) = at_record file number words.now
