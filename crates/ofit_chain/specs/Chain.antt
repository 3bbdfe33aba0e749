-- The chain of groups in list order: the value of each group is at most the next one's.
use Rattle.std.specs.Prelude.{length}
use Rattle.ofit_num.specs.Groups.{RowLists}
use Rattle.ofit_num.specs.Problem.{Problem, problem_of}
use Rattle.ofit_num.specs.Unbounded.{no_bounds}
pub use Rattle.ofit_num.specs.Pairs.{chain_pairs}

-- the groups in a chain, without bounds
abbrev pub chain_problem : RowLists → Problem
chain_problem groups = problem_of groups (chain_pairs (length groups)) no_bounds
