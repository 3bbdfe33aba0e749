-- The records of groups and blocks.
use Rattle.std.proofs.Common.{◌≡◌, ℕ, ◌+◌, ◌∙◌, sym, ap, subst, List, [], length}
use Rattle.std.proofs.lemmas.Option.{get_or_from_slice_get}
use Rattle.std.specs.Prelude.{slice_get, Some, Option, unwrap_or}
use Rattle.ofit_num.specs.declared.row.Row.{Row}
use Rattle.ofit_num.specs.Fraction.{Fraction}
use Rattle.ofit_num.specs.Fit.{BestValues}
use Rattle.ofit_num.specs.Fraction.{IsLowest}
use Rattle.ofit_study.specs.declared.loss.LossKind.{LossKind}
use Rattle.ofit_study.specs.declared.loss.LossKind.TheVariants.{Squares}
use Rattle.ofit_study.specs.Study.{Study, IsValid, names_of, groups_of, problem_stated, meaning_of}
use Rattle.ofit_report.specs.Tight.{value_at}
use Rattle.ofit_report.specs.Blocks.{IsBlockOf}
use Rattle.ofit_report.specs.BlockMeans.{IsMeanOrWhole, HasBlockMeans}
use Rattle.ofit_report.specs.Cost.{block_value, rows_among, IsCost}
use Rattle.ofit_report.specs.ReportText.{block_fields, group_fields, name_at, IsBlockRecord, IsGroupRecord, IsRoundedDown}
use Rattle.ofit_report.proofs.Means.{mean_or_whole}
use Rattle.ofit_report.proofs.Ready.{IsReady}

module _ (s : Study) (values : List Fraction) (k : ℕ) (members : List ℕ) (rows : List Row) (value : Fraction) (ready : IsReady s values k members) (are_rows : rows ≡ rows_among s members) (is_value : value ≡ block_value values members) where
  pub block_record : (loss : LossKind) (cost : Fraction) → loss ≡ s.settings.loss → IsCost (meaning_of loss) rows value cost → IsBlockRecord s values k (block_fields (k + 1) (length members) rows value cost)
  block_record loss cost is_loss is_cost = record {
    members = members;
    are_members = ready.are;
    cost = cost;
    is_cost = subst (λ (f : Fraction). IsCost (meaning_of s.settings.loss) (rows_among s members) f cost) is_value
        (subst (λ (rs : List Row). IsCost (meaning_of s.settings.loss) rs value cost) are_rows (subst (λ (l : LossKind). IsCost (meaning_of l) rows value cost) is_loss is_cost));
    spells = ap (λ (rs : List Row). block_fields (k + 1) (length members) rs value cost) are_rows ∙ ap (λ (f : Fraction). block_fields (k + 1) (length members) (rows_among s members) f cost) is_value;
  }

  pub block_mean : HasBlockMeans s values → (loss : LossKind) → loss ≡ s.settings.loss → IsLowest value → loss ≡ Squares → IsMeanOrWhole rows value
  block_mean means loss is_loss lowest squared =
      let mean : IsMeanOrWhole (rows_among s members) (block_value values members) = means.means (sym is_loss ∙ squared) k members ready.are ready.some (subst IsLowest is_value lowest) in
      subst (λ (f : Fraction). IsMeanOrWhole rows f) (sym is_value) (subst (λ (rs : List Row). IsMeanOrWhole rs (block_value values members)) (sym are_rows) mean)

-- best values have the blocks' means
pub best_means : (s : Study) → IsValid s → (values : List Fraction) → BestValues (meaning_of s.settings.loss) (problem_stated s) values → HasBlockMeans s values
best_means s v values best = record {
  means = λ squared k members are some lowest. mean_or_whole s v values (subst (λ (l : LossKind). BestValues (meaning_of l) (problem_stated s) values) squared best) k members are some lowest;
}

-- the record of a group
pub group_record : (s : Study) (values : List Fraction) (g : ℕ) (name : List ℕ) (rows : List Row) (block : ℕ) (value : Fraction) (rounded : List ℕ) (places : ℕ) → slice_get (names_of s) g ≡ Some name → slice_get (groups_of s) g ≡ Some rows
    → IsBlockOf s values block g → value ≡ value_at values g → places ≡ s.settings.places → IsRoundedDown value places rounded → IsGroupRecord s values g (group_fields name rows block value rounded)
group_record s values g name rows block value rounded places named here is_block is_value is_places is_rounded = record {
  block = block;
  is_block = is_block;
  rounded = rounded;
  is_rounded = subst (λ (f : Fraction). IsRoundedDown f s.settings.places rounded) is_value (subst (λ (p : ℕ). IsRoundedDown value p rounded) is_places is_rounded);
  spells =
      ap (λ (t : List ℕ). group_fields t rows block value rounded) (sym (get_or_from_slice_get (names_of s) g name [] named))
      ∙ ap (λ (o : Option (List Row)). group_fields (name_at s g) (unwrap_or o []) block value rounded) (sym here)
      ∙ ap (λ (f : Fraction). group_fields (name_at s g) ((problem_stated s).rows g) block f rounded) is_value;
}
