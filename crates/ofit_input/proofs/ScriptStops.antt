-- How a script that isn't read stops.
use Rattle.std.proofs.Common.{◌≡◌, ◌⊎◌, inl, inr, ℕ, List, refl, sym, subst}
use Rattle.std.specs.Prelude.{Option, Result, Ok, Err, IsErrAnd, IsErrOf, IfErr}
use Rattle.std.proofs.lemmas.Result.{err_from_is_err_and}
use Rattle.ofit_outside.specs.Folder.{Held}
use Rattle.ofit_study.specs.declared.settings.Settings.{Settings}
use Rattle.ofit_script.specs.declared.fault.ScriptFault.{ScriptFault}
use Rattle.ofit_script.specs.declared.fault.ScriptFault.TheVariants.{TooManyLines, TooManyPrints, UnknownLine, FieldCount, NotName, BadRow, NotNumber, TooFine, TooLarge, BadWeight, Memory}
use Rattle.ofit_script.specs.declared.line.Line.{Line}
use Rattle.ofit_script.specs.ScriptRead.{ScriptRead}
use Rattle.ofit_input.specs.Files.{IsFile, ReadGives}
use Rattle.ofit_input.specs.Given.{LinesGive}
use Rattle.ofit_input.specs.declared.refusal.Refusal.{Refusal}
use Rattle.ofit_input.specs.declared.refusal.Refusal.TheVariants.{Script}
use Rattle.ofit_input.specs.declared.stop.Stop.{Stop}
use Rattle.ofit_input.specs.Stops.{Stops, script_stop}
use Rattle.ofit_input.proofs.Results.{err_same}

module _ (held : Option Held) (name : List ℕ) (settings : Settings) (before after : ℕ) (bytes : List ℕ) (file : IsFile held name bytes) (same : after ≡ before) where
  abbrev AtStop : Stop → Type 0
  AtStop stop = Stops before after (λ refusal. LinesGive held name settings (Err refusal)) stop

  refused : (fault : ScriptFault) → ScriptRead bytes settings (Err fault) → (fault ≡ Memory → ⊥) → LinesGive held name settings (Err (Script fault))
  refused fault read other = inr (bytes, file, (fault, read, other, refl))

  at_fault : (fault : ScriptFault) → ScriptRead bytes settings (Err fault) → AtStop (script_stop fault)
  at_fault Memory read = same
  at_fault (TooManyLines n) read = (refused (TooManyLines n) read (λ e. cc), same)
  at_fault (TooManyPrints n) read = (refused (TooManyPrints n) read (λ e. cc), same)
  at_fault (UnknownLine n) read = (refused (UnknownLine n) read (λ e. cc), same)
  at_fault (FieldCount n) read = (refused (FieldCount n) read (λ e. cc), same)
  at_fault (NotName n) read = (refused (NotName n) read (λ e. cc), same)
  at_fault (BadRow n) read = (refused (BadRow n) read (λ e. cc), same)
  at_fault (NotNumber n) read = (refused (NotNumber n) read (λ e. cc), same)
  at_fault (TooFine n) read = (refused (TooFine n) read (λ e. cc), same)
  at_fault (TooLarge n) read = (refused (TooLarge n) read (λ e. cc), same)
  at_fault (BadWeight n) read = (refused (BadWeight n) read (λ e. cc), same)

  stopped : (fault : ScriptFault) → IsErrOf {T = List Line} (Err fault) Memory ⊎ ScriptRead bytes settings (Err fault) → AtStop (script_stop fault)
  stopped fault (inl e) = subst (λ (f : ScriptFault). AtStop (script_stop f)) (sym (err_same {T = List Line} fault Memory e)) same
  stopped fault (inr read) = at_fault fault read

  -- and what `?` makes of it
  pub stops : {T : Type 0} (result : Result T Stop) (fault : ScriptFault) → IsErrAnd result (λ stop. stop ≡ script_stop fault) → IsErrOf {T = List Line} (Err fault) Memory ⊎ ScriptRead bytes settings (Err fault) → IfErr result AtStop
  stops result fault made read =
      let p : (stop : Stop) × (result ≡ Err stop) × (stop ≡ script_stop fault) = err_from_is_err_and result made in
      subst (λ z. IfErr z AtStop) (sym p.1) (subst AtStop (sym p.2) (stopped fault read))
