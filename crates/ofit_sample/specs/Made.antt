-- The study that a job of a sample makes.
use Rattle.std.specs.Prelude.{ℕ, pos, ◌+◌, ◌-◌, ◌*◌, ◌/◌, List, [], ◌∷◌, ◌++◌, map, None, codes, decimal}
use Rattle.std.specs.List.{range_with_len, flat_map}
use Rattle.ofit_study.specs.declared.settings.Settings.{Settings}
use Rattle.ofit_study.specs.Study.{Observation, Study, HasPairs}
use Rattle.ofit_num.specs.Pairs.{chain_pairs, umbrella_pairs, tree_pairs}
use Rattle.ofit_words.specs.declared.job.Kind.{Kind}
use Rattle.ofit_words.specs.declared.job.Kind.TheVariants.{Chain, Umbrella, Tree, General}
use Rattle.ofit_words.specs.declared.job.SampleJob.{SampleJob}
use Rattle.ofit_sample.specs.Generator.{drawn}

-- the groups are called g1, g2, and so on
abbrev pub group_name : ℕ → List ℕ
group_name place = codes "g" ++ decimal (place + 1)

-- the row of this index in the group at a place, whose value and weight are drawn behind so many draws
abbrev pub row_drawn : ℕ → ℕ → ℕ → ℕ → Observation
row_drawn seed index place draws = record {
  number = index + 1;
  group = group_name place;
  value = pos (drawn seed (draws + 1) 2001);
  weight = 1 + drawn seed (draws + 2) 9;
}

-- the first rows go to one group each: two draws a row
abbrev pub first_row : ℕ → ℕ → Observation
first_row seed index = row_drawn seed index index (2 * index)

abbrev pub first_rows : ℕ → ℕ → List Observation
first_rows seed count = map (first_row seed) (range_with_len 0 count)

-- how many draws are made before the row behind so many later ones
abbrev pub later_draws : ℕ → ℕ → ℕ
later_draws groups k = 2 * groups + 3 * k

-- the group of a later row is drawn before its value: three draws a row
abbrev pub later_row : ℕ → ℕ → ℕ → Observation
later_row seed groups k = row_drawn seed (groups + k) (drawn seed (later_draws groups k + 1) groups) (later_draws groups k + 1)

abbrev pub later_rows : ℕ → ℕ → ℕ → List Observation
later_rows seed groups count = map (later_row seed groups) (range_with_len 0 count)

abbrev pub made_rows : SampleJob → List Observation
made_rows job = first_rows job.seed job.groups ++ later_rows job.seed job.groups (job.rows - job.groups)

abbrev pub made_settings : SampleJob → Settings
made_settings job = record { loss = job.loss; places = 3; lo = None; hi = None }

-- the study of these rows alone
abbrev pub table_of : SampleJob → List Observation → Study
table_of job rows = record { settings = made_settings job; rows = rows; pairs = [] }

-- the place of the umbrella's peak, whose number is the half of one more than the count of groups, rounded down
abbrev pub peak_place : ℕ → ℕ
peak_place groups = (groups + 1) / 2 - 1

-- The group at the place k + 1 is above two groups before it, which are drawn and may be one: behind so many draws, and two for each
-- group between the first one and it.
abbrev pub pairs_drawn : ℕ → ℕ → ℕ → List (ℕ × ℕ)
pairs_drawn seed draws k = (drawn seed (draws + 2 * k + 1) (k + 1), k + 1) ∷ (drawn seed (draws + 2 * k + 2) (k + 1), k + 1) ∷ []

-- those of all groups but the first
abbrev pub all_drawn : ℕ → ℕ → ℕ → List (ℕ × ℕ)
all_drawn seed draws groups = flat_map (pairs_drawn seed draws) (range_with_len 0 (groups - 1))

-- they are drawn behind all rows
abbrev pub general_pairs : SampleJob → List (ℕ × ℕ)
general_pairs job = all_drawn job.seed (later_draws job.groups (job.rows - job.groups)) job.groups

-- the pairs by places, where equal ones may stand twice
abbrev pub pairs_of_kind : Kind → SampleJob → List (ℕ × ℕ)
pairs_of_kind Chain job = chain_pairs job.groups
pairs_of_kind Umbrella job = umbrella_pairs (peak_place job.groups) job.groups
pairs_of_kind Tree job = tree_pairs 0 job.groups
pairs_of_kind General job = general_pairs job

-- the rows, and each pair once
abbrev pub IsMade : SampleJob → Study → Type 0
IsMade job s = HasPairs (table_of job (made_rows job)) (pairs_of_kind job.kind job) s
