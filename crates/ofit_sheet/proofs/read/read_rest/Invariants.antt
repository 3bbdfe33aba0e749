use Rattle.std.proofs.Common.{◌≡◌, ◌++◌, ℕ, List, length}
use Rattle.ofit_study.specs.Study.{names_of}
use Rattle.ofit_sheet.specs.declared.item.Item.{Item}
use Rattle.ofit_sheet.specs.Steps.{Follows}
use Rattle.ofit_sheet.proofs.read.read_rest.Given as goal

abbrev pub invariant-loop-draft : goal.invariant-loop-draft
invariant-loop-draft l = record {
  done : List (List (List ℕ));
  items : List Item;
  parted : l.fn.records ≡ done ++ l.records;
  follows : Follows (names_of l.study) l.sized done items l.draft;
}

abbrev pub decreases-loop-draft : goal.decreases-loop-draft
decreases-loop-draft l = length l.records
