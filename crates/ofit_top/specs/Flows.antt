-- Where a text may hold flows, which are free within what passes.
use Rattle.std.specs.Prelude.{⊤, Contains}
use Rattle.ofit_script.specs.declared.line.Line.TheVariants.{Sheet}
use Rattle.ofit_input.specs.declared.ready.Ready.{Ready}
use Rattle.ofit_input.specs.declared.ready.Ready.TheVariants.{Fit, Session, Unimodal}

-- the sheet of a fit, the sides of a peaked one, and each sheet that a script prints
abbrev pub HasFlows : Ready → Type 0
HasFlows (Fit study) = ⊤
HasFlows (Session study lines) = Contains lines Sheet
HasFlows (Unimodal study) = ⊤
HasFlows ready = ⊥
