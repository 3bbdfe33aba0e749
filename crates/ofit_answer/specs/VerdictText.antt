-- The line of a verdict on a sheet of a study.
use Rattle.std.specs.Prelude.{ℕ, List, [], ◌++◌, codes, decimal, slice_index_or}
use Rattle.ofit_study.specs.Study.{Study, names_of}
use Rattle.ofit_check.specs.declared.verdict.Verdict.{Verdict}
use Rattle.ofit_check.specs.declared.verdict.Verdict.TheVariants.{Settings, Size, GroupMissing, Disobeys, OutOfBounds, FlowNotPair, FlowOrder, FlowNotTight, Balance, Passes}

-- the name of the group at a place
abbrev pub group_text : Study → ℕ → List ℕ
group_text s place = slice_index_or (names_of s) place []

-- the names of the pair at an index, the low one and the high one
abbrev pub pair_names : Study → ℕ → List ℕ × List ℕ
pair_names s index = slice_index_or s.pairs index ([], [])

-- `fails <words> <group>`
abbrev pub group_fault : List ℕ → Study → ℕ → List ℕ
group_fault words s place = codes "fails " ++ words ++ codes " " ++ group_text s place ++ codes "\n"

-- `fails order <low> <high>`
abbrev pub pair_fault : Study → ℕ → List ℕ
pair_fault s index = codes "fails order " ++ (pair_names s index).0 ++ codes " " ++ (pair_names s index).1 ++ codes "\n"

-- `fails flow <i> <words>`
abbrev pub flow_fault : ℕ → List ℕ → List ℕ
flow_fault number words = codes "fails flow " ++ decimal number ++ codes " " ++ words ++ codes "\n"

abbrev pub verdict_text : Study → Verdict → List ℕ
verdict_text s Settings = codes "fails settings\n"
verdict_text s Size = codes "fails size\n"
verdict_text s (GroupMissing place) = group_fault (codes "missing") s place
verdict_text s (Disobeys index) = pair_fault s index
verdict_text s (OutOfBounds place) = group_fault (codes "bounds") s place
verdict_text s (FlowNotPair number) = flow_fault number (codes "not a pair")
verdict_text s (FlowOrder number) = flow_fault number (codes "out of order")
verdict_text s (FlowNotTight number) = flow_fault number (codes "not tight")
verdict_text s (Balance place) = group_fault (codes "balance") s place
verdict_text s Passes = codes "passes\n"
