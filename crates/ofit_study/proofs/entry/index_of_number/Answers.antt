use Rattle.std.proofs.Common.{◌∙◌, arith, ap}
use Rattle.ofit_study.specs.declared.entry.Entry.{Entry}
use Rattle.std.proofs.lemmas.List.{get_or_default}
use Rattle.ofit_study.proofs.Bisecting.{none_at}
use Rattle.ofit_study.proofs.entry.index_of_number.Goals as goal
use Rattle.ofit_study.proofs.entry.index_of_number.Goals.{else-index-entries-via-then-index-entries+else-entries-index, else-index-entries-via-else-index-entries}

pub returns-else-index-entries : goal.returns-else-index-entries
returns-else-index-entries c = elim c.else-index-entries.branch [
  | else-index-entries-via-then-index-entries+else-entries-index w ↦
      none_at c.args.entries.now c.requires c.args.number c.entries_below-index.result c.entries_below-index.ensures
      (λ d l e. w.if-entries-index.false (ap (λ (x : Entry). x.row.number) (get_or_default c.args.entries.now c.entries_below-index.result _ d l) ∙ e))
  | else-index-entries-via-else-index-entries w ↦ none_at c.args.entries.now c.requires c.args.number c.entries_below-index.result c.entries_below-index.ensures (λ d l. absurd (omega (arith, w.if-index-entries.false)))
]
