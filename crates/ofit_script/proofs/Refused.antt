-- What a refused edit tells.
use Rattle.std.proofs.Common.{◌≡◌, ◌⊎◌, Err, inl, inr, sym, subst, Ok}
use Rattle.ofit_study.specs.declared.edit.Edit.{Edit}
use Rattle.ofit_study.specs.declared.fault.EditFault.{EditFault}
use Rattle.ofit_study.specs.declared.fault.EditFault.TheVariants.{Memory}
use Rattle.ofit_study.specs.Edited.{Edited}
use Rattle.ofit_study.specs.Study.{Study}
use Rattle.ofit_script.specs.declared.line.Line.{Line}
use Rattle.ofit_script.specs.declared.line.Line.TheVariants.{Change}
use Rattle.ofit_script.specs.Runs.{IsTaken}
use Rattle.ofit_script.proofs.Outcomes.{not_refused}
use Rattle.ofit_script.proofs.RowParts.{AreRising}

-- a fault other than want of memory is the edit's refusal
pub refused_so : {P : Type 0} (fault : EditFault) → (fault ≡ Memory → ⊥) → (fault ≡ Memory) ⊎ P → P
refused_so fault other (inl e) = absurd (other e)
refused_so fault other (inr h) = h

same_edit : (a b : Edit) → ◌≡◌ {A = Line} (Change a) (Change b) → a ≡ b
same_edit a b e = cc

-- and the edit isn't taken
pub none_taken : (s : Study) → AreRising s.rows → (edit : Edit) (fault : EditFault) → Edited s edit (Err fault) → (taken : Study) → IsTaken s (Change edit) taken → ⊥
none_taken s rising edit fault h taken t =
    not_refused s rising edit taken fault (subst (λ (e : Edit). Edited s e (Ok taken)) (sym (same_edit edit t.edit t.is)) t.edited) h
