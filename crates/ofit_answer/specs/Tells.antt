-- What telling an answer does to the error output.
use Rattle.std.specs.Prelude.{◌≡◌, ◌⊎◌, ℕ, List, Option, MatchOption}
use Rattle.ofit_outside.specs.Faults.{Rose}
use Rattle.ofit_outside.specs.Sink.{with_more, GainsPrefix}
use Rattle.ofit_answer.specs.ErrorText.{error_line}
use Rattle.ofit_answer.specs.declared.answer.Answer.{Answer}

-- what a sink tells of its bytes, and the count of its faults
pub record SinkState : Type 0 where
  pub written : Option (List ℕ)
  pub faults : ℕ

abbrev pub sink : Option (List ℕ) → ℕ → SinkState
sink written faults = record { written = written; faults = faults }

-- the whole line came after what was there and no fault was counted, or a first part of it came and the count rose
abbrev pub IsTold : SinkState → SinkState → List ℕ → Type 0
IsTold before after line =
    ((after.written ≡ with_more before.written line) × (after.faults ≡ before.faults)) ⊎ (GainsPrefix before.written after.written line × Rose before.faults after.faults)

-- the answer's line is told; where it has none, nothing came
abbrev pub Tells : SinkState → SinkState → Answer → Type 0
Tells before after answer =
    MatchOption (error_line answer) ((after.written ≡ before.written) × (after.faults ≡ before.faults)) (λ line. IsTold before after line)
