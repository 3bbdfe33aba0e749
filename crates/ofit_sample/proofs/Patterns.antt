-- The pairs of a kind that are a pattern's.
use Rattle.std.proofs.Common.{◌≡◌, ◌≢◌, ◌≤◌, ◌<◌, ◌∙◌, ℕ, List, Some, None, Ok, length, refl, sym, ap, subst, arith}
use Rattle.std.specs.Prelude.{AllPairs, Contains, slice_get}
use Rattle.std.proofs.lemmas.Option.{same_Some}
use Rattle.ofit_num.specs.Pairs.{chain_pairs, tree_pairs, umbrella_pairs}
use Rattle.ofit_study.specs.declared.pattern.Pattern.{Pattern}
use Rattle.ofit_study.specs.declared.pattern.Pattern.TheVariants as pattern
use Rattle.ofit_study.specs.Study.{HasPairs, Study, names_of}
use Rattle.ofit_study.proofs.GroupNames.{group_names-distinct}
use Rattle.ofit_table.specs.PatternRead.{ArePatternPairs, PatternRead}
use Rattle.ofit_study.proofs.Places.{named_place}
use Rattle.ofit_words.specs.declared.job.Kind.{Kind}
use Rattle.ofit_words.specs.declared.job.Kind.TheVariants.{Chain, Umbrella, Tree, General}
use Rattle.ofit_words.specs.declared.job.SampleJob.{SampleJob}
use Rattle.ofit_sample.specs.Made.{group_name, made_rows, pairs_of_kind, peak_place, table_of, IsMade}
use Rattle.ofit_sample.specs.Making.{HasPatternGroup, first_names, pattern_of}
use Rattle.ofit_sample.proofs.Names.{name_at, name_there, names-length}

peak_inside : (groups : ℕ) → 1 ≤ groups → peak_place groups < groups
peak_inside groups some = omega (arith, some)

-- the peak and the root are groups
pub group_there : (kind : Kind) (groups : ℕ) (shape : Pattern) (names : List (List ℕ)) → names ≡ first_names groups → 1 ≤ groups → Some shape ≡ pattern_of kind groups → HasPatternGroup shape names
group_there Chain groups shape names e some is = subst (λ (p : Pattern). HasPatternGroup p names) (sym (same_Some shape pattern.Chain is)) tt
group_there Umbrella groups shape names e some is =
    subst (λ (p : Pattern). HasPatternGroup p names) (sym (same_Some shape (pattern.Umbrella (group_name (peak_place groups))) is))
    (subst (λ (ns : List (List ℕ)). Contains ns (group_name (peak_place groups))) (sym e) (name_there groups (peak_place groups) (peak_inside groups some)))
group_there Tree groups shape names e some is =
    subst (λ (p : Pattern). HasPatternGroup p names) (sym (same_Some shape (pattern.Tree (group_name 0)) is))
    (subst (λ (ns : List (List ℕ)). Contains ns (group_name 0)) (sym e) (name_there groups 0 some))
group_there General groups shape names e some is = absurd cc

module _ (job : SampleJob) (names : List (List ℕ)) (are : names ≡ first_names job.groups) (apart : AllPairs (λ a b. a ≢ b) names) (some : 1 ≤ job.groups) where
  counted : length names ≡ job.groups
  counted = ap length are ∙ names-length job.groups

  placed : (name : List ℕ) (place own : ℕ) → own < job.groups → name ≡ group_name own → slice_get names place ≡ Some name → place ≡ own
  placed name place own inside is at =
      named_place names name place own apart at
      (subst (λ (n : List ℕ). slice_get names own ≡ Some n) (sym is) (subst (λ (ns : List (List ℕ)). slice_get ns own ≡ Some (group_name own)) (sym are) (name_at job.groups own inside)))

  pairs_are : (kind : Kind) (shape : Pattern) (pairs : List (ℕ × ℕ)) → Some shape ≡ pattern_of kind job.groups → ArePatternPairs shape names (Ok pairs) → pairs ≡ pairs_of_kind kind job
  pairs_are Chain shape pairs is h =
      let own : ArePatternPairs pattern.Chain names (Ok pairs) = subst (λ (p : Pattern). ArePatternPairs p names (Ok pairs)) (same_Some shape pattern.Chain is) h in
      own ∙ ap chain_pairs counted
  pairs_are Umbrella shape pairs is h =
      let name = group_name (peak_place job.groups) in
      let own : ArePatternPairs (pattern.Umbrella name) names (Ok pairs) = subst (λ (p : Pattern). ArePatternPairs p names (Ok pairs)) (same_Some shape (pattern.Umbrella name) is) h in
      let place : own.0 ≡ peak_place job.groups = placed name own.0 (peak_place job.groups) (peak_inside job.groups some) refl own.1 in
      own.2 ∙ ap (λ (n : ℕ). umbrella_pairs n (length names)) place ∙ ap (umbrella_pairs (peak_place job.groups)) counted
  pairs_are Tree shape pairs is h =
      let name = group_name 0 in
      let own : ArePatternPairs (pattern.Tree name) names (Ok pairs) = subst (λ (p : Pattern). ArePatternPairs p names (Ok pairs)) (same_Some shape (pattern.Tree name) is) h in
      let place : own.0 ≡ 0 = placed name own.0 0 some refl own.1 in
      own.2 ∙ ap (λ (n : ℕ). tree_pairs n (length names)) place ∙ ap (tree_pairs 0) counted
  pairs_are General shape pairs is h = absurd cc

pub made_with : (job : SampleJob) (s after : Study) (pairs : List (ℕ × ℕ)) → s ≡ table_of job (made_rows job) → pairs ≡ pairs_of_kind job.kind job → HasPairs s pairs after → IsMade job after
made_with job s after pairs is pairs_is h =
    subst (λ (ps : List (ℕ × ℕ)). HasPairs (table_of job (made_rows job)) ps after) pairs_is (subst (λ (u : Study). HasPairs u pairs after) is h)

pub made_by_pattern : (job : SampleJob) (s after : Study) (shape : Pattern) → names_of s ≡ first_names job.groups → 1 ≤ job.groups → s ≡ table_of job (made_rows job) → Some shape ≡ pattern_of job.kind job.groups → PatternRead shape s (Ok after) → IsMade job after
made_by_pattern job s after shape names some is shaped h =
    made_with job s after h.0 is (pairs_are job (names_of s) names (group_names-distinct s.rows) some job.kind shape h.0 shaped h.1) h.2

pub made_by_draws : (job : SampleJob) (s after : Study) (pairs : List (ℕ × ℕ)) → s ≡ table_of job (made_rows job) → None ≡ pattern_of job.kind job.groups → pairs ≡ pairs_of_kind General job → HasPairs s pairs after → IsMade job after
made_by_draws job s after pairs is none drawn h = made_with job s after pairs is (drawn ∙ general job.kind none) h
  where
    general : (kind : Kind) → None ≡ pattern_of kind job.groups → pairs_of_kind General job ≡ pairs_of_kind kind job
    general Chain e = absurd cc
    general Umbrella e = absurd cc
    general Tree e = absurd cc
    general General e = refl
