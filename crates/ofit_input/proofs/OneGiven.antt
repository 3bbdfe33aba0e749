-- The inputs of a told folder are given in one way.
use Rattle.std.proofs.Common.{◌≡◌, ◌⊎◌, inl, inr, ℕ, List, refl, sym, ◌∙◌, subst}
use Rattle.std.specs.Prelude.{Some, Result, Ok, Err}
use Rattle.ofit_outside.specs.Folder.{Held}
use Rattle.ofit_num.specs.Sheet as num
use Rattle.ofit_records.specs.Records.{records_of}
use Rattle.ofit_study.specs.declared.pattern.Pattern.{Pattern}
use Rattle.ofit_study.specs.declared.settings.Settings.{Settings}
use Rattle.ofit_study.specs.Study.{Study, names_of}
use Rattle.ofit_words.specs.declared.job.Inputs.{Inputs}
use Rattle.ofit_words.specs.declared.job.OrderChoice.{OrderChoice}
use Rattle.ofit_words.specs.declared.job.OrderChoice.TheVariants.{Shaped, File}
use Rattle.ofit_table.specs.declared.fault.DataFault.TheVariants as data_fault
use Rattle.ofit_table.specs.declared.fault.OrderFault.TheVariants as order_fault
use Rattle.ofit_table.specs.DataRead.{DataRead}
use Rattle.ofit_table.specs.PairsRead.{PairsRead}
use Rattle.ofit_table.specs.PatternRead.{PatternRead}
use Rattle.ofit_sheet.specs.declared.fault.SheetFault.TheVariants as sheet_fault
use Rattle.ofit_sheet.specs.SheetRead.{SheetRead}
use Rattle.ofit_script.specs.declared.fault.ScriptFault.{ScriptFault}
use Rattle.ofit_script.specs.declared.fault.ScriptFault.TheVariants as script_fault
use Rattle.ofit_script.specs.declared.line.Line.{Line}
use Rattle.ofit_script.specs.ScriptRead.{ScriptRead}
use Rattle.ofit_input.specs.declared.refusal.Which.TheVariants as which
use Rattle.ofit_input.specs.declared.refusal.Refusal.{Refusal}
use Rattle.ofit_input.specs.declared.refusal.Refusal.TheVariants.{Table, Pairs, Sheet, Script}
use Rattle.ofit_input.specs.Given.{TableGives, OrderGives, StudyGives, SheetGives, LinesGive}
use Rattle.ofit_input.proofs.Results.{ok_same, ok_apart}
use Rattle.ofit_input.proofs.OneFile.{IsOneWay, one_reading, one_from_file}

-- tables, orders, patterns and sheets are read in one way
abbrev pub TablesAreOne : Type 0
TablesAreOne = (bytes : List ℕ) (settings : Settings) → IsOneWay (DataRead bytes settings) data_fault.Memory

abbrev pub OrdersAreOne : Type 0
OrdersAreOne = (bytes : List ℕ) (study : Study) → IsOneWay (PairsRead bytes study) order_fault.Memory

abbrev pub PatternsAreOne : Type 0
PatternsAreOne = (pattern : Pattern) (study : Study) → IsOneWay (PatternRead pattern study) order_fault.Memory

abbrev pub SheetsAreOne : Type 0
SheetsAreOne = (study : Study) (rows : List (List (List ℕ))) → IsOneWay (SheetRead (names_of study) rows) sheet_fault.Memory

pub one_table : TablesAreOne → (h : Held) (name : List ℕ) (settings : Settings) (a b : Result Study Refusal) → TableGives (Some h) name settings a → TableGives (Some h) name settings b → a ≡ b
one_table one h name settings a b x y = one_from_file (λ bytes. DataRead bytes settings) Table data_fault.Memory (λ bytes. one bytes settings) h name which.Table a b x y

one_order : OrdersAreOne → PatternsAreOne → (h : Held) (choice : OrderChoice) (study : Study) (a b : Result Study Refusal) → OrderGives (Some h) choice study a → OrderGives (Some h) choice study b → a ≡ b
one_order orders patterns h (Shaped pattern) study a b x y = one_reading (PatternRead pattern study) Pairs order_fault.Memory (patterns pattern study) a b x y
one_order orders patterns h (File name) study a b x y = one_from_file (λ bytes. PairsRead bytes study) Pairs order_fault.Memory (λ bytes. orders bytes study) h name which.Pairs a b x y

-- a table is refused, or its order gives what the study is
abbrev IsStudied : Held → Inputs → Result Study Refusal → Type 0
IsStudied h inputs a =
    ((refusal : Refusal) × (a ≡ Err refusal) × TableGives (Some h) inputs.table inputs.settings (Err refusal))
    ⊎ ((before : Study) × TableGives (Some h) inputs.table inputs.settings (Ok before) × OrderGives (Some h) inputs.order before a)

studied : (h : Held) (inputs : Inputs) (a : Result Study Refusal) → StudyGives (Some h) inputs a → IsStudied h inputs a
studied h inputs (Ok study) (before, x, y, v) = inr (before, x, y)
studied h inputs (Err refusal) (inl x) = inl (refusal, refl, x)
studied h inputs (Err refusal) (inr x) = inr x

pub one_study : TablesAreOne → OrdersAreOne → PatternsAreOne → (h : Held) (inputs : Inputs) (a b : Result Study Refusal) → StudyGives (Some h) inputs a → StudyGives (Some h) inputs b → a ≡ b
one_study tables orders patterns h inputs a b x y = cases (studied h inputs a x) (studied h inputs b y)
  where
    same : (r t : Result Study Refusal) → TableGives (Some h) inputs.table inputs.settings r → TableGives (Some h) inputs.table inputs.settings t → r ≡ t
    same r t = one_table tables h inputs.table inputs.settings r t

    apart : (study : Study) (refusal : Refusal) → TableGives (Some h) inputs.table inputs.settings (Ok study) → TableGives (Some h) inputs.table inputs.settings (Err refusal) → ⊥
    apart study refusal f k = ok_apart study refusal (same (Ok study) (Err refusal) f k)

    cases : IsStudied h inputs a → IsStudied h inputs b → a ≡ b
    cases (inl (r, e, f)) (inl (t, d, k)) = e ∙ same (Err r) (Err t) f k ∙ sym d
    cases (inl (r, e, f)) (inr (s, k, v)) = absurd (apart s r k f)
    cases (inr (s, f, u)) (inl (t, d, k)) = absurd (apart s t f k)
    cases (inr (s, f, u)) (inr (o, k, v)) =
        one_order orders patterns h inputs.order s a b u
        (subst (λ (before : Study). OrderGives (Some h) inputs.order before b) (ok_same o s (same (Ok o) (Ok s) k f)) v)

pub one_sheet : SheetsAreOne → (h : Held) (name : List ℕ) (study : Study) (a b : Result (num.Sheet Settings) Refusal) → SheetGives (Some h) name study a → SheetGives (Some h) name study b → a ≡ b
one_sheet sheets h name study a b x y =
    one_from_file (λ bytes. SheetRead (names_of study) (records_of bytes)) Sheet sheet_fault.Memory (λ bytes. sheets study (records_of bytes)) h name which.Sheet a b x y

-- scripts are read in one way
abbrev pub ScriptsAreOne : Type 0
ScriptsAreOne = (bytes : List ℕ) (settings : Settings) (a b : Result (List Line) ScriptFault) → ScriptRead bytes settings a → ScriptRead bytes settings b → a ≡ b

pub one_script : ScriptsAreOne → (h : Held) (name : List ℕ) (settings : Settings) (a b : Result (List Line) Refusal) → LinesGive (Some h) name settings a → LinesGive (Some h) name settings b → a ≡ b
one_script scripts h name settings a b x y =
    one_from_file (λ bytes. ScriptRead bytes settings) Script script_fault.Memory (λ bytes r t f k n m. scripts bytes settings r t f k) h name which.Script a b x y
