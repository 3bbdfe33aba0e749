-- A job's study, summary and count are told in one way.
use Rattle.std.proofs.Common.{◌≡◌, ◌∙◌, ℕ, List, length, sym, ap, subst, arith}
use Rattle.std.specs.Prelude.{All}
use Rattle.std.proofs.lemmas.Int.{ints}
use Rattle.std.proofs.lemmas.List.Elements.{All-contains}
use Rattle.ofit_num.specs.Fit.{LeastBestValues}
use Rattle.ofit_num.specs.Fraction.{AtMost, Fraction, IsLowest}
use Rattle.ofit_num.proofs.Coprime.{same_lowest}
use Rattle.ofit_num.proofs.Unique.{unique_least_best}
use Rattle.ofit_order.specs.Component.{IsComponentCount}
use Rattle.ofit_order.specs.Relation.{Relation}
use Rattle.ofit_order.proofs.Uniqueness.{AreLeastPlaces-same}
use Rattle.ofit_records.specs.Written.{records_text}
use Rattle.ofit_report.specs.Blocks.{block_order, order_of}
use Rattle.ofit_study.specs.Counted.{HasComponentCount}
use Rattle.ofit_study.specs.Loss.{meaning_of}
use Rattle.ofit_study.specs.Study.{Study, problem_stated}
use Rattle.ofit_table.proofs.NamedPairs.{paired_one}
use Rattle.ofit_words.specs.declared.job.SampleJob.{SampleJob}
use Rattle.ofit_sample.specs.Made.{made_rows, pairs_of_kind, table_of, IsMade}
use Rattle.ofit_sample.specs.SampleText.{IsGreatestOf, IsLeastOf, SampleText, TellsSample, sample_records}

pub one_study : (job : SampleJob) (s t : Study) → IsMade job s → IsMade job t → s ≡ t
one_study job s t h k = paired_one (table_of job (made_rows job)) (pairs_of_kind job.kind job) s t h k

one_count : (order : Relation) (m n : ℕ) → IsComponentCount order m → IsComponentCount order n → m ≡ n
one_count order m n h k = h.2 ∙ ap length (AreLeastPlaces-same order h.0 k.0 h.1 k.1) ∙ sym k.2

pub one_component_count : (job : SampleJob) (s t : Study) (m n : ℕ) → IsMade job s → IsMade job t → HasComponentCount (problem_stated s) m → HasComponentCount (problem_stated t) n → m ≡ n
one_component_count job s t m n h k p q =
    let own : HasComponentCount (problem_stated t) m = subst (λ (u : Study). HasComponentCount (problem_stated u) m) (one_study job s t h k) p in
    one_count (record { places = (problem_stated t).count; pairs = (problem_stated t).pairs }) m n own q

one_least : (values : List Fraction) (a b : Fraction) → All IsLowest values → IsLeastOf values a → IsLeastOf values b → a ≡ b
one_least values a b lowest h k =
    let on : AtMost a b = All-contains (AtMost a) values b h.most k.among in
    let back : AtMost b a = All-contains (AtMost b) values a k.most h.among in
    same_lowest a b (All-contains IsLowest values a lowest h.among) (All-contains IsLowest values b lowest k.among) (omega (arith, ints, on, back))

one_greatest : (values : List Fraction) (a b : Fraction) → All IsLowest values → IsGreatestOf values a → IsGreatestOf values b → a ≡ b
one_greatest values a b lowest h k =
    let on : AtMost a b = All-contains (λ v. AtMost v b) values a k.least h.among in
    let back : AtMost b a = All-contains (λ v. AtMost v a) values b h.least k.among in
    same_lowest a b (All-contains IsLowest values a lowest h.among) (All-contains IsLowest values b lowest k.among) (omega (arith, ints, on, back))

told_one : (job : SampleJob) (s : Study) (values : List Fraction) (a b : List ℕ) → All IsLowest values → TellsSample job s values a → TellsSample job s values b → a ≡ b
told_one job s values a b lowest h k =
    let components : h.components ≡ k.components = one_count (order_of s) h.components k.components h.is_count k.is_count in
    let blocks : h.blocks ≡ k.blocks = one_count (block_order s values) h.blocks k.blocks h.is_block_count k.is_block_count in
    let least : h.least ≡ k.least = one_least values h.least k.least lowest h.is_least k.is_least in
    let greatest : h.greatest ≡ k.greatest = one_greatest values h.greatest k.greatest lowest h.is_greatest k.is_greatest in
    let text = λ (m n : ℕ) (l g : Fraction). records_text (sample_records job s m n l g) in
    h.spells
    ∙ ap (λ (m : ℕ). text m h.blocks h.least h.greatest) components
    ∙ ap (λ (n : ℕ). text k.components n h.least h.greatest) blocks
    ∙ ap (λ (l : Fraction). text k.components k.blocks l h.greatest) least
    ∙ ap (λ (g : Fraction). text k.components k.blocks k.least g) greatest
    ∙ sym k.spells

pub one_summary : (job : SampleJob) (a b : List ℕ) → SampleText job a → SampleText job b → a ≡ b
one_summary job a b h k =
    let study : h.study ≡ k.study = one_study job h.study k.study h.made k.made in
    let best : LeastBestValues (meaning_of k.study.settings.loss) (problem_stated k.study) h.values =
    subst (λ (u : Study). LeastBestValues (meaning_of u.settings.loss) (problem_stated u) h.values) study h.least_best in
    let values : h.values ≡ k.values = unique_least_best (meaning_of k.study.settings.loss) (problem_stated k.study) h.values k.values h.lowest k.lowest best k.least_best in
    let own : TellsSample job k.study h.values a = subst (λ (u : Study). TellsSample job u h.values a) study h.tells in
    told_one job k.study k.values a b k.lowest (subst (λ (vs : List Fraction). TellsSample job k.study vs a) values own) k.tells
