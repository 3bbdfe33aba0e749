-- What is read so far, and the next record.
use Rattle.std.proofs.Common.{◌≡◌, ◌∙◌, ◌≤◌, ◌+◌, ◌++◌, ◌⊎◌, ℕ, List, [], ◌∷◌, length, inl, inr, Some, Ok, Err, Result, refl, sym, ap, subst, arith, append_assoc, append-nil, cond}
use Rattle.std.proofs.lemmas.List.{length_push}
use Rattle.std.proofs.lemmas.List.Elements.{All-nil, All-push}
use Rattle.std.proofs.lemmas.Option.{slice_get_within}
use Rattle.std.specs.List.{AllZip}
use Rattle.std.specs.Prelude.{Bool, true, false, IfErr, IfOk, slice_get}
use Rattle.ofit_num.proofs.Lists.{zip-push}
use Rattle.ofit_script.specs.declared.fault.ScriptFault.{ScriptFault}
use Rattle.ofit_script.specs.declared.fault.ScriptFault.TheVariants.{Memory}
use Rattle.ofit_script.specs.declared.kind.Kind.{Kind}
use Rattle.ofit_script.specs.declared.line.Line.{Line}
use Rattle.ofit_script.specs.Kinds.{IsOfKind, kind_name, prints}
use Rattle.ofit_script.specs.Lines.{is_print, most_prints, print_count}
use Rattle.ofit_script.specs.Script.{IsLineInLimits, IsScript}
use Rattle.ofit_script.specs.Spelling.{IsShaped, RecordFault, Spells, bad_field}
use Rattle.ofit_script.specs.ScriptRead.{AreLines, HasFault}
use Rattle.ofit_script.specs.Reading.{FieldsRead, HasRoom, IsReadSoFar, SpellsOfKind}
use Rattle.ofit_script.proofs.ScriptReadings.{prints-append}

pub no_lines : IsScript []
no_lines = record { few = omega arith; few_prints = omega arith; limits = All-nil IsLineInLimits }

-- no kind begins like a record without a first field, or with another one
pub no_first : (fields : List (List ℕ)) → length fields ≤ 0 → (kind : Kind) → IsOfKind fields kind → ⊥
no_first fields l kind h = absurd (omega (arith, l, slice_get_within fields 0 (kind_name kind) h))

same_first : (fields : List (List ℕ)) (a b : List ℕ) → slice_get fields 0 ≡ Some a → slice_get fields 0 ≡ Some b → a ≡ b
same_first fields a b h k = cc

pub other_first : (fields : List (List ℕ)) (first : List ℕ) → slice_get fields 0 ≡ Some first → ((kind : Kind) → first ≡ kind_name kind → ⊥) → (kind : Kind) → IsOfKind fields kind → ⊥
other_first fields first e none kind h = none kind (same_first fields first (kind_name kind) e h)

pub of_kind : (fields : List (List ℕ)) (first : List ℕ) (kind : Kind) → slice_get fields 0 ≡ Some first → first ≡ kind_name kind → IsOfKind fields kind
of_kind fields first kind e f = e ∙ ap Some f

-- a line more
prints_push : (lines : List Line) (line : Line) → print_count (lines ++ line ∷ []) ≡ print_count lines + cond (is_print line) 1 0
prints_push lines line = prints-append lines (line ∷ []) ∙ omega arith

pub kept_with : (places : ℕ) (fields : List (List ℕ)) (kind : Kind) (lines : List Line) (line : Line) → IsScript lines → HasRoom lines kind → SpellsOfKind places kind fields line → IsScript (lines ++ line ∷ [])
kept_with places fields kind lines line kept room spelled = record {
  few = omega (arith, room.few, length_push lines line);
  few_prints = omega (arith, prints_push lines line, shown (prints kind) refl);
  limits = All-push IsLineInLimits lines line kept.limits spelled.limits;
} where
  shown : (b : Bool) → prints kind ≡ b → print_count lines + cond (is_print line) 1 0 ≤ most_prints
  shown true e = rw (spelled.same ∙ e) (omega (arith, room.few_prints e))
  shown false e = rw (spelled.same ∙ e) (omega (arith, kept.few_prints))

pub kept_count : (lines : List Line) (line : Line) (before after : ℕ) → before ≡ print_count lines → after ≡ before + cond (is_print line) 1 0 → after ≡ print_count (lines ++ line ∷ [])
kept_count lines line before after e f = omega (arith, e, f, prints_push lines line)

-- the next record
module _ (places : ℕ) (records left : List (List (List ℕ))) (fields : List (List ℕ)) (lines : List Line) (so : IsReadSoFar places records (fields ∷ left) lines) where
  pub one_more : (line : Line) (after : List Line) → Spells places fields line → IsScript (lines ++ line ∷ []) → after ≡ lines ++ line ∷ [] → IsReadSoFar places records left after
  one_more line after h kept e = record {
    done = so.done ++ fields ∷ [];
    parted = so.parted ∙ sym (append_assoc so.done (fields ∷ []) left);
    each = subst (AllZip (Spells places) (so.done ++ fields ∷ [])) (sym e) (zip-push (Spells places) so.done lines fields line so.each h);
    kept = subst IsScript (sym e) kept;
  }

  zip_long : (xs : List (List (List ℕ))) (ys : List Line) → AllZip (Spells places) xs ys → length xs ≡ length ys
  zip_long [] [] h = refl
  zip_long [] (y ∷ ys) h = absurd h
  zip_long (x ∷ xs) [] h = absurd h
  zip_long (x ∷ xs) (y ∷ ys) h = omega (arith, zip_long xs ys h.1)

  pub fault_found : (fault : ScriptFault) → RecordFault places lines fields (length lines + 1) fault → HasFault places records fault
  fault_found fault h = record {
    before = so.done;
    fields = fields;
    after = left;
    lines = lines;
    parted = so.parted;
    fine = record { each = so.each; few = so.kept.few; few_prints = so.kept.few_prints };
    found = subst (λ (n : ℕ). RecordFault places lines fields (n + 1) fault) (sym (zip_long so.done lines so.each)) h;
  }

  pub fault_told : (fault : ScriptFault) → (fault ≡ Memory) ⊎ RecordFault places lines fields (length lines + 1) fault → ◌≡◌ {A = Result (List Line) ScriptFault} (Err fault) (Err Memory) ⊎ HasFault places records fault
  fault_told fault (inl e) = inl (ap (λ (f : ScriptFault). Err f) e)
  fault_told fault (inr h) = inr (fault_found fault h)

-- no record is left
pub all_read : (places : ℕ) (records left : List (List (List ℕ))) (lines : List Line) → IsReadSoFar places records left lines → left ≡ [] → AreLines places records lines
all_read places records left lines so none = record {
  each = subst (λ (t : List (List (List ℕ))). AllZip (Spells places) t lines) (sym (so.parted ∙ ap (λ (t : List (List (List ℕ))). so.done ++ t) none ∙ append-nil so.done)) so.each;
  few = so.kept.few;
  few_prints = so.kept.few_prints;
}

pub none_read : (places : ℕ) (records left : List (List (List ℕ))) (lines : List Line) → left ≡ records → lines ≡ [] → IsReadSoFar places records left lines
none_read places records left lines e f = record {
  done = [];
  parted = sym e;
  each = subst (AllZip (Spells places) []) (sym f) tt;
  kept = subst IsScript (sym f) no_lines;
}

-- what the reading of the fields says of the record behind these lines
pub fields_read_ok : (places : ℕ) (kind : Kind) (fields : List (List ℕ)) (number : ℕ) (r : Result Line ScriptFault) → FieldsRead places kind fields number r → IfOk r (λ line. Spells places fields line)
fields_read_ok places kind fields number (Ok line) h = h.spells
fields_read_ok places kind fields number (Err fault) h = tt

pub fields_read_kept : (places : ℕ) (kind : Kind) (fields : List (List ℕ)) (number : ℕ) (lines : List Line) (r : Result Line ScriptFault) → IsScript lines → HasRoom lines kind → FieldsRead places kind fields number r
    → IfOk r (λ line. IsScript (lines ++ line ∷ []))
fields_read_kept places kind fields number lines (Ok line) kept room h = kept_with places fields kind lines line kept room h
fields_read_kept places kind fields number lines (Err fault) kept room h = tt

pub fields_read_err : (places : ℕ) (kind : Kind) (fields : List (List ℕ)) (number : ℕ) (lines : List Line) (r : Result Line ScriptFault) → number ≡ length lines + 1 → HasRoom lines kind → IsShaped fields kind → FieldsRead places kind fields number r
    → IfErr r (λ fault. (fault ≡ Memory) ⊎ RecordFault places lines fields (length lines + 1) fault)
fields_read_err places kind fields number lines (Ok line) e room shaped h = tt
fields_read_err places kind fields number lines (Err fault) e room shaped (inl m) = inl m
fields_read_err places kind fields number lines (Err fault) e room shaped (inr f) = inr (subst (λ (n : ℕ). RecordFault places lines fields n fault) e (bad_field room.few kind shaped f))
