-- The phases of a flow, counted against the sink's level.
use Rattle.std.proofs.Common.{◌≡◌, ◌≢◌, ℕ, ◌<◌, ◌≤◌, ◌+◌, sym, arith, List, length, Option, Some}
use Rattle.std.specs.Prelude.{ℤ, pos, ◌≤ℤ◌}
use Rattle.ofit_flow.specs.declared.edge.Edge.{Edge}
use Rattle.ofit_flow.specs.Flow.{IsFlow, value_of}
use Rattle.ofit_flow.specs.Levels.{level_at, IsSearched, IsFurther}

-- a flow after so many phases, of which there are no more than the last level of the sink
pub record IsPhased (es : List Edge) (nodes source sink : ℕ) (xs : List ℤ) (value : ℤ) (levels : List (Option ℕ)) (spent : List ℕ) (before count : ℕ) : Type 0 where
  pub flow : IsFlow es source sink xs
  pub valued : value ≡ value_of es source xs
  pub gained : pos 0 ≤ℤ value
  pub counted : length levels ≡ nodes
  pub spent_counted : length spent ≡ nodes
  pub last : ℕ
  pub last_in : last < nodes
  pub further : IsFurther es xs source sink last
  pub begun : before ≤ count
  pub by_level : count ≤ before + last

-- the sink's level is above 0
pub sink_above : (es : List Edge) (xs : List ℤ) (source sink : ℕ) → source ≢ sink → IsFurther es xs source sink 0
sink_above es xs source sink apart levels far h at = let r = h.reached sink far at (λ e. apart (sym e)) in omega (arith, r.above)

-- one more phase, in which the levels have reached the sink
pub phased_more : {es : List Edge} {nodes source sink : ℕ} {xs xs' : List ℤ} {value value' : ℤ} {levels built levels' : List (Option ℕ)} {spent spent' : List ℕ} {before count : ℕ} (last count' : ℕ) → IsPhased es nodes source sink xs value levels spent before count → IsSearched es xs source sink built → length built ≡ nodes → level_at built sink ≡ Some last → IsFurther es xs' source sink last → IsFlow es source sink xs' → value' ≡ value_of es source xs' → pos 0 ≤ℤ value' → length levels' ≡ nodes → length spent' ≡ nodes → count' ≡ count + 1 → IsPhased es nodes source sink xs' value' levels' spent' before count'
phased_more {es} {nodes} {source} {sink} {xs} {xs'} {value} {value'} {levels} {built} {levels'} {spent} {spent'} {before} {count} last count' h searched told at further flow valued gained counted spent_counted is = record {
  flow = flow;
  valued = valued;
  gained = gained;
  counted = counted;
  spent_counted = spent_counted;
  last = last;
  last_in = omega (arith, searched.low sink last at, told);
  further = further;
  begun = omega (arith, h.begun);
  by_level = omega (arith, h.by_level, h.further built last searched.levelling at);
}
