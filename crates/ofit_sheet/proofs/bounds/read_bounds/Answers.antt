use Rattle.std.proofs.Common.{ℤ, Option, subst, sym}
use Rattle.std.specs.Prelude.{Result}
use Rattle.ofit_study.specs.Settings.{IsBoundInLimits, InOrder}
use Rattle.ofit_sheet.specs.declared.fault.RecordFault.{RecordFault}
use Rattle.ofit_sheet.specs.Reading.{IsReading, both_of}
use Rattle.ofit_sheet.specs.Spelling.{IsBoundText, SpellsBounds}
use Rattle.ofit_sheet.proofs.Readings.{reading_as, both_read}
use Rattle.ofit_sheet.proofs.bounds.read_bounds.Goals as goal

pub returns : goal.returns
returns c =
    let P : Option ℤ → Type 0 = λ b. IsBoundText c.args.first.now b in
    let Q : Option ℤ → Type 0 = λ b. IsBoundText c.args.second.now b in
    let S : Option ℤ × Option ℤ → Type 0 = λ b. SpellsBounds c.args.first.now c.args.second.now c.args.third.now b.0 b.1 × InOrder b.0 b.1 in
    let W : Option ℤ × Option ℤ → Type 0 = λ b. IsBoundInLimits b.0 × IsBoundInLimits b.1 in
    subst (λ (r : Result (Option ℤ × Option ℤ) RecordFault). IsReading S W r) (sym c.both.ensures)
    (reading_as (λ b. P b.0 × Q b.1) S W (both_of c.read_bound.result c.read_bound-2.result)
    (λ b h. (record { low = h.0; high = h.1; no_more = c.is.ensures.0 c.if-not-is.false }, (c.are_in_order.ensures b.0 b.1 h.0 h.1).0 c.if-not-are_in_order.false))
    (λ b s. (s.0.low, s.0.high))
    (both_read P IsBoundInLimits Q IsBoundInLimits c.read_bound.result c.read_bound-2.result c.read_bound.ensures c.read_bound-2.ensures))
