use Rattle.std.proofs.Common.{◌≢◌, List, subst, sym, All, MatchOption}
use Rattle.ofit_study.specs.declared.entry.Entry.{Entry}
use Rattle.ofit_study.specs.Splice.{IsEntryAt, RiseFromOne}
use Rattle.ofit_study.proofs.Bisecting.{entries_rise}
use Rattle.ofit_study.proofs.Gaps.{row_here}
use Rattle.ofit_study.proofs.study.Study.row_index.Goals as goal

pub index_of_number-requires : goal.index_of_number-requires
index_of_number-requires c =
    let i = c.self.inside in
    subst RiseFromOne (sym c.as_slice.ensures.value) (entries_rise i.settings i.names i.entries.items i.pairs c.self.invariant.valid)

pub returns : goal.returns
returns c =
    let i = c.self.inside in
    row_here i.settings i.names i.entries.items i.pairs c.args.self.now c.self.view_is c.args.number c.index_of_number.result
    (subst (λ (t : List Entry). MatchOption c.index_of_number.result (All (λ e. e.row.number ≢ c.args.number) t) (λ index. IsEntryAt t index c.args.number)) c.as_slice.ensures.value c.index_of_number.ensures)
