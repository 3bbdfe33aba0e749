-- A summary, record by record.
use Rattle.std.proofs.Common.{◌≡◌, ◌++◌, ◌∙◌, ℕ, List, [], ◌∷◌, refl, sym, ap, append-nil}
use Rattle.ofit_records.specs.Written.{record_text, records_text}
use Rattle.ofit_report.proofs.Listed.{Fields, records_text-append}
use Rattle.ofit_num.specs.Verdict as num
use Rattle.ofit_check.specs.declared.verdict.Verdict.{Verdict}
use Rattle.ofit_check.specs.declared.verdict.Verdict.TheVariants.{Settings, Size, GroupMissing, Disobeys, OutOfBounds, FlowNotPair, FlowOrder, FlowNotTight, Balance, Passes}
use Rattle.ofit_check.specs.Told.{told}

pub no_record : (w : List ℕ) → w ≡ [] → w ≡ records_text []
unfolding records_text
no_record w e = e

pub one_record : (records : List Fields) (fields : Fields) (w v : List ℕ) → w ≡ records_text records → v ≡ w ++ record_text fields → v ≡ records_text (records ++ fields ∷ [])
unfolding records_text
one_record records fields w v h e =
    e ∙ ap (λ (t : List ℕ). t ++ record_text fields) h ∙ ap (λ (t : List ℕ). records_text records ++ t) (sym (append-nil (record_text fields))) ∙ sym (records_text-append records (fields ∷ []))

-- the verdict of a sheet that passes
pub passing : (v : Verdict) → told v ≡ num.passes → v ≡ Passes
passing Settings e = absurd cc
passing Size e = absurd cc
passing (GroupMissing place) e = absurd cc
passing (Disobeys index) e = absurd cc
passing (OutOfBounds place) e = absurd cc
passing (FlowNotPair number) e = absurd cc
passing (FlowOrder number) e = absurd cc
passing (FlowNotTight number) e = absurd cc
passing (Balance place) e = absurd cc
passing Passes e = refl
