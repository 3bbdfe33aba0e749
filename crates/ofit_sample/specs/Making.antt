-- A made study on its way.
use Rattle.std.specs.Prelude.{◌≡◌, ◌≤◌, ◌<◌, ◌*◌, ℕ, List, Option, Some, None, Contains, length, map, ⊤}
use Rattle.std.specs.List.{range_with_len}
use Rattle.ofit_study.specs.declared.pattern.Pattern.{Pattern}
use Rattle.ofit_study.specs.declared.pattern.Pattern.TheVariants as pattern
use Rattle.ofit_study.specs.Adding.{HasGroupOrRoom}
use Rattle.ofit_study.specs.Study.{Observation, Study, group_names, total_weight}
use Rattle.ofit_table.specs.Numbered.{AreNumbered}
use Rattle.ofit_words.specs.declared.job.Kind.{Kind}
use Rattle.ofit_words.specs.declared.job.Kind.TheVariants.{Chain, Umbrella, Tree, General}
use Rattle.ofit_words.specs.declared.job.SampleJob.{SampleJob}
use Rattle.ofit_sample.specs.Generator.{number_after}
use Rattle.ofit_sample.specs.Made.{group_name, peak_place, table_of}

-- the names of the first so many groups
abbrev pub first_names : ℕ → List (List ℕ)
first_names count = map group_name (range_with_len 0 count)

-- rows numbered from 1 on, of small weights, in the first so many groups
pub record AreMaking (rows : List Observation) (count : ℕ) : Type 0 where
  pub numbered : AreNumbered rows
  pub light : total_weight rows ≤ 9 * length rows
  pub names : group_names rows ≡ first_names count

-- Of a made study these rows are made, those of the first so many groups, behind so many draws. x is the generator's number.
pub record IsUnderway (job : SampleJob) (rows : List Observation) (count draws : ℕ) (s : Study) (x : ℕ) : Type 0 where
  pub study : s ≡ table_of job rows
  pub making : AreMaking rows count
  pub drawn : x ≡ number_after job.seed draws

-- rows numbered from 1 on, of small weights, with room for one more in the group at a place
pub record HasRoom (s : Study) (place : ℕ) : Type 0 where
  pub numbered : AreNumbered s.rows
  pub few : length s.rows < 10000
  pub light : total_weight s.rows ≤ 9 * length s.rows
  pub group : HasGroupOrRoom s (group_name place)

-- the pattern whose pairs a kind has, if there is one
abbrev pub pattern_of : Kind → ℕ → Option Pattern
pattern_of Chain groups = Some pattern.Chain
pattern_of Umbrella groups = Some (pattern.Umbrella (group_name (peak_place groups)))
pattern_of Tree groups = Some (pattern.Tree (group_name 0))
pattern_of General groups = None

-- the pattern's peak or root is one of the names
abbrev pub HasPatternGroup : Pattern → List (List ℕ) → Type 0
HasPatternGroup pattern.NoPairs names = ⊤
HasPatternGroup pattern.Chain names = ⊤
HasPatternGroup (pattern.Umbrella name) names = Contains names name
HasPatternGroup (pattern.Tree name) names = Contains names name
