use Rattle.std.proofs.Common.{List, subst, sym}
use Rattle.ofit_study.specs.declared.entry.Entry.{Entry}
use Rattle.ofit_study.specs.Splice.{IsGapAmong, RiseFromOne}
use Rattle.ofit_study.proofs.Bisecting.{entries_rise}
use Rattle.ofit_study.proofs.Gaps.{gap_here}
use Rattle.ofit_study.proofs.study.Study.first_gap.Goals as goal

pub gap_among-requires : goal.gap_among-requires
gap_among-requires c =
    let i = c.self.inside in
    subst RiseFromOne (sym c.as_slice.ensures.value) (entries_rise i.settings i.names i.entries.items i.pairs c.self.invariant.valid)

pub returns : goal.returns
returns c =
    let i = c.self.inside in
    gap_here i.settings i.names i.entries.items i.pairs c.args.self.now c.self.view_is c.self.invariant.valid c.gap_among.result
    (subst (λ (t : List Entry). IsGapAmong t c.gap_among.result) c.as_slice.ensures.value c.gap_among.ensures)
