-- A loss by its text and by what it means.
use Rattle.std.specs.Prelude.{◌≡◌, ℕ, List, codes, ⊤}
use Rattle.ofit_num.specs.Meaning.{Meaning}
use Rattle.ofit_num.specs.Loss.{squares, median}
use Rattle.ofit_study.specs.declared.loss.LossKind.{LossKind}
use Rattle.ofit_study.specs.declared.loss.LossKind.TheVariants.{Squares, Median}

-- what words, sheets and reports call it
abbrev pub loss_text : LossKind → List ℕ
loss_text Squares = codes "squares"
loss_text Median = codes "median"

-- the text is its name
abbrev pub IsLoss : List ℕ → LossKind → Type 0
IsLoss text loss = text ≡ loss_text loss

-- it is one of the table
abbrev pub IsListed : LossKind → Type 0
IsListed Squares = ⊤
IsListed Median = ⊤

-- the text is read as a loss of the table
abbrev pub IsListedLoss : List ℕ → LossKind → Type 0
IsListedLoss text loss = IsLoss text loss × IsListed loss

-- its degree, and what it counts of residuals above 0 and of others
abbrev pub meaning_of : LossKind → Meaning
meaning_of Squares = squares
meaning_of Median = median
