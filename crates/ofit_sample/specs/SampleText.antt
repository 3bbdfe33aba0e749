-- The summary of a sample.
use Rattle.std.specs.Prelude.{◌≡◌, ℕ, List, [], ◌∷◌, length, All, Contains, codes, decimal}
use Rattle.std.specs.Fmt.{signed_decimal}
use Rattle.ofit_num.specs.Fit.{LeastBestValues}
use Rattle.ofit_num.specs.Fraction.{Fraction, AtMost, IsLowest}
use Rattle.ofit_order.specs.Component.{IsComponentCount}
use Rattle.ofit_records.specs.Written.{records_text}
use Rattle.ofit_report.specs.Blocks.{order_of, block_order}
use Rattle.ofit_study.specs.FieldText.{dash}
use Rattle.ofit_study.specs.Loss.{meaning_of}
use Rattle.ofit_study.specs.Study.{Study, names_of, problem_stated}
use Rattle.ofit_words.specs.declared.job.Kind.{Kind}
use Rattle.ofit_words.specs.declared.job.Kind.TheVariants.{Chain, Umbrella, Tree, General}
use Rattle.ofit_words.specs.declared.job.SampleJob.{SampleJob}
use Rattle.ofit_sample.specs.Made.{IsMade}

abbrev pub kind_text : Kind → List ℕ
kind_text Chain = codes "chain"
kind_text Umbrella = codes "umbrella"
kind_text Tree = codes "tree"
kind_text General = codes "general"

abbrev pub value_fields : List ℕ → Fraction → List (List ℕ)
value_fields called value = called ∷ signed_decimal value.num ∷ decimal value.den ∷ dash ∷ []

abbrev pub header_fields : SampleJob → List (List ℕ)
header_fields job = codes "ofit-sample" ∷ codes "1" ∷ decimal job.seed ∷ kind_text job.kind ∷ []

-- how many groups, rows and pairs
abbrev pub size_fields : Study → List (List ℕ)
size_fields s = codes "size" ∷ decimal (length (names_of s)) ∷ decimal (length s.rows) ∷ decimal (length s.pairs) ∷ []

-- how many components and blocks
abbrev pub parts_fields : ℕ → ℕ → List (List ℕ)
parts_fields components blocks = codes "parts" ∷ decimal components ∷ decimal blocks ∷ dash ∷ []

abbrev pub verdict_fields : List (List ℕ)
verdict_fields = codes "verdict" ∷ codes "passes" ∷ dash ∷ dash ∷ []

abbrev pub end_fields : List (List ℕ)
end_fields = codes "end" ∷ dash ∷ dash ∷ dash ∷ []

-- the job, the study, its components and blocks, the least and the greatest value, and the checker's verdict
abbrev pub sample_records : SampleJob → Study → ℕ → ℕ → Fraction → Fraction → List (List (List ℕ))
sample_records job s components blocks least greatest =
    header_fields job ∷ size_fields s ∷ parts_fields components blocks ∷ value_fields (codes "least") least ∷ value_fields (codes "greatest") greatest ∷ verdict_fields ∷ end_fields ∷ []

-- one of the values is at most each
pub record IsLeastOf (values : List Fraction) (least : Fraction) : Type 0 where
  pub among : Contains values least
  pub most : All (AtMost least) values

-- and one at least each
pub record IsGreatestOf (values : List Fraction) (greatest : Fraction) : Type 0 where
  pub among : Contains values greatest
  pub least : All (λ value. AtMost value greatest) values

-- the summary of a study with these values
pub record TellsSample (job : SampleJob) (s : Study) (values : List Fraction) (text : List ℕ) : Type 0 where
  pub components : ℕ
  pub is_count : IsComponentCount (order_of s) components
  pub blocks : ℕ
  pub is_block_count : IsComponentCount (block_order s values) blocks
  pub least : Fraction
  pub is_least : IsLeastOf values least
  pub greatest : Fraction
  pub is_greatest : IsGreatestOf values greatest
  pub spells : text ≡ records_text (sample_records job s components blocks least greatest)

-- the summary of the study that the job makes, with its least best values
pub record SampleText (job : SampleJob) (text : List ℕ) : Type 0 where
  pub study : Study
  pub made : IsMade job study
  pub values : List Fraction
  pub least_best : LeastBestValues (meaning_of study.settings.loss) (problem_stated study) values
  pub lowest : All IsLowest values
  pub tells : TellsSample job study values text
