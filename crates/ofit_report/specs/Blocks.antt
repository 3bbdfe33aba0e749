-- Blocks: the largest sets of groups that pairs between groups of equal value join, numbered from 1 by their first groups.
use Rattle.std.specs.Prelude.{◌≡◌, ◌+◌, ℕ, List, length}
use Rattle.ofit_num.specs.Fraction.{Fraction}
use Rattle.ofit_order.specs.Relation.{Relation}
use Rattle.ofit_order.specs.Component.{IsComponentOf}
use Rattle.ofit_study.specs.Study.{Study, names_of, places_of}
use Rattle.ofit_report.specs.Tight.{tight_among}

-- the study's groups with its pairs
abbrev pub order_of : Study → Relation
order_of s = record { places = length (names_of s); pairs = places_of s }

-- the study's groups with its pairs of equal values; the blocks are the components of this order
abbrev pub block_order : Study → List Fraction → Relation
block_order s values = record { places = length (names_of s); pairs = tight_among values (places_of s) }

-- the block of this number has the group at the place
abbrev pub IsBlockOf : Study → List Fraction → ℕ → ℕ → Type 0
IsBlockOf s values block g = (k : ℕ) × (block ≡ k + 1) × IsComponentOf (block_order s values) k g
