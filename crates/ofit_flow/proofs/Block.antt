-- A blocking flow, one path at a time.
use Rattle.std.proofs.Common.{◌≡◌, ◌≢◌, ℕ, ◌<◌, ◌≤◌, refl, ap, sym, ◌∙◌, subst, arith, Bool, true, false, List, length, get_or, replicate, Option, Some, to_z, of_z}
use Rattle.std.specs.List.{All}
use Rattle.std.proofs.lemmas.Int.{ints, to_z-of_z}
use Rattle.std.proofs.lemmas.List.{get_or-replicate, get_or_default, length-replicate}
use Rattle.std.specs.Prelude.{ℤ, pos, ◌+ℤ◌, ◌≤ℤ◌, ◌<ℤ◌}
use Rattle.ofit_flow.specs.declared.edge.Edge.{Edge}
use Rattle.ofit_flow.specs.declared.step.Step.{Step}
use Rattle.ofit_flow.specs.Flow.{IsFlow, value_of}
use Rattle.ofit_flow.specs.Incidence.{IsIncidence}
use Rattle.ofit_flow.specs.Levels.{level_at, IsSearched, IsFurther}
use Rattle.ofit_flow.specs.Search.{CanSearch}
use Rattle.ofit_flow.specs.Walk.{IsPath, IsPhase, IsWay, IsAugmented, CanWalk, Walks, no_step}
use Rattle.ofit_flow.proofs.Augmenting.{value-small}
use Rattle.ofit_flow.proofs.Phase.{phase_first, phase_sent, later}
use mir.Syntax.{w128}

-- a blocking flow under way, since the levels were `first`
pub record IsBlocking (es : List Edge) (nodes : ℕ) (row : ℕ → List ℕ) (source sink : ℕ) (first : List (Option ℕ)) (xs : List ℤ) (levels : List (Option ℕ)) (spent : List ℕ) (value : ℤ) : Type 0 where
  pub flow : IsFlow es source sink xs
  pub valued : value ≡ value_of es source xs
  pub gained : pos 0 ≤ℤ value
  pub can : CanWalk es xs nodes row levels spent
  pub started : level_at levels source ≡ Some 0
  pub sink_kept : level_at levels sink ≡ level_at first sink
  pub phase : (last : ℕ) → level_at first sink ≡ Some last → IsPhase es nodes row xs first levels spent last

pub blocking_first : {es : List Edge} {row : ℕ → List ℕ} {source sink : ℕ} {levels : List (Option ℕ)} {xs : List ℤ} (spent : List ℕ) (value : ℤ) → CanSearch es xs (length levels) → IsIncidence es (length levels) row → IsFlow es source sink xs → value ≡ value_of es source xs → pos 0 ≤ℤ value → IsSearched es xs source sink levels → spent ≡ replicate (length levels) 0 → IsBlocking es (length levels) row source sink levels xs levels spent value
blocking_first {es} {row} {source} {sink} {levels} {xs} spent value net inc flow valued gained searched none =
    let zero_at : (v : ℕ) → v < length levels → get_or spent v 0 ≡ 0 = λ v b. ap (λ (s : List ℕ). get_or s v 0) none ∙ get_or-replicate (length levels) v 0 0 b in
    record {
      flow = flow;
      valued = valued;
      gained = gained;
      can = record {
        net = net;
        rows = inc;
        counted = refl;
        low = searched.low;
        kept = record {
          counted = ap (length {A = ℕ}) none ∙ length-replicate {A = ℕ} (length levels) 0;
          within = λ v b. omega (arith, zero_at v b);
        };
      };
      started = searched.levelling.started;
      sink_kept = refl;
      phase = λ last goal. phase_first es (length levels) row xs levels spent last sink zero_at searched.steady goal;
    }

-- the same walk, as a loop names it
pub walks_as : {es : List Edge} {xs xs' : List ℤ} {nodes nodes' : ℕ} {row : ℕ → List ℕ} {levels levels' : List (Option ℕ)} {spent spent' : List ℕ} {path : List Step} {source sink : ℕ} {found found' : Bool} → Walks es xs nodes row levels levels' spent spent' path source sink found → xs ≡ xs' → nodes ≡ nodes' → found ≡ found' → Walks es xs' nodes' row levels levels' spent spent' path source sink found'
walks_as {es} {xs' = xs'} {nodes} {nodes'} {row} {levels} {levels'} {spent} {spent'} {path} {source} {sink} {found} {found'} w x n f =
    subst (λ (b : Bool). Walks es xs' nodes' row levels levels' spent spent' path source sink b) f
    (subst (λ (k : ℕ). Walks es xs' k row levels levels' spent spent' path source sink found) n
    (subst (λ (ys : List ℤ). Walks es ys nodes row levels levels' spent spent' path source sink found) x w))

-- a path that has been found can carry more
pub path_rooms : {es : List Edge} {xs : List ℤ} {levels : List (Option ℕ)} {path : List Step} {source sink : ℕ} → IsPath es xs levels path source sink → All (λ (s : Step). pos 0 <ℤ s.room) path
path_rooms {path = path} p i d b =
    let up = p.steps i b in
    subst (λ (s : Step). pos 0 <ℤ s.room) (sym (get_or_default path i d no_step b)) (omega (ints, arith, up.room, up.arc.room))

pub found_way : {es : List Edge} {xs : List ℤ} {nodes : ℕ} {row : ℕ → List ℕ} {levels levels' : List (Option ℕ)} {spent spent' : List ℕ} {path : List Step} {source sink : ℕ} {by : ℤ} → Walks es xs nodes row levels levels' spent spent' path source sink true → All (λ (s : Step). by ≤ℤ s.room) path → IsWay es xs path by
found_way {nodes = nodes} {levels' = levels'} {source = source} {sink} w wide = record {
  nodes = nodes;
  levels = levels';
  source = source;
  sink = sink;
  net = w.can.net;
  way = w.leads refl;
  wide = wide;
}

-- a path more
pub blocking_more : {es : List Edge} {nodes : ℕ} {row : ℕ → List ℕ} {source sink : ℕ} {first : List (Option ℕ)} {xs xs' : List ℤ} {levels levels' : List (Option ℕ)} {spent spent' : List ℕ} {path : List Step} {value by : ℤ} (value' : ℤ) → IsBlocking es nodes row source sink first xs levels spent value → Walks es xs nodes row levels levels' spent spent' path source sink true → IsAugmented es source sink levels' xs xs' by → value' ≡ value +ℤ by → pos 0 ≤ℤ by → IsBlocking es nodes row source sink first xs' levels' spent' value'
blocking_more {es} {nodes} {row} {source} {sink} {first} {xs} {xs'} {levels} {levels'} {spent} {spent'} {path} {value} {by} value' h w sent is positive =
    let p : IsPath es xs levels' path source sink = w.leads refl in
    record {
      flow = sent.flow;
      valued = omega (arith, ints, is, h.valued, sent.value);
      gained = omega (arith, ints, is, h.gained);
      can = record {
        net = record { few = w.can.net.few; edges_in = w.can.net.edges_in; within = sent.flow.within };
        rows = w.can.rows;
        counted = w.can.counted;
        low = w.can.low;
        kept = w.can.kept;
      };
      started = ap (level_at levels') (sym p.first) ∙ p.heights 0 (omega arith);
      sink_kept = w.sink_kept ∙ h.sink_kept;
      phase = λ last goal. phase_sent es nodes row xs xs' first levels' spent' last w.can.rows w.can.kept (w.phase first last (h.phase last goal)) sent.falls;
    }

-- the sum of the value and what a path adds to it
pub more_fits : {es : List Edge} {nodes : ℕ} {row : ℕ → List ℕ} {source sink : ℕ} {first : List (Option ℕ)} {xs xs' : List ℤ} {levels levels' : List (Option ℕ)} {spent : List ℕ} {value by : ℤ} → IsBlocking es nodes row source sink first xs levels spent value → IsAugmented es source sink levels' xs xs' by → source ≢ sink → length es ≤ 50000 → (value +ℤ by) ≤ℤ pos 100000000000000000000000000000000000000
more_fits {es} {nodes} {source = source} {sink} {xs' = xs'} h sent apart few =
    omega (arith, ints, h.valued, sent.value, value-small es source sink xs' nodes apart sent.flow h.can.net.edges_in few)

-- the value is a number of 128 bits, and so is its sum with what a path adds
pub record AreKept (value by : ℤ) : Type 0 where
  pub value_is : to_z w128 (of_z w128 value) ≡ value
  pub sum_is : to_z w128 (of_z w128 (to_z w128 (of_z w128 value) +ℤ by)) ≡ value +ℤ by

pub are_kept : (value by : ℤ) → pos 0 ≤ℤ value → pos 0 <ℤ by → (value +ℤ by) ≤ℤ pos 100000000000000000000000000000000000000 → AreKept value by
are_kept value by gained positive small =
    let value_is : to_z w128 (of_z w128 value) ≡ value = to_z-of_z w128 value (omega (arith, ints)) in
    record {
      value_is = value_is;
      sum_is = subst (λ (z : ℤ). to_z w128 (of_z w128 (z +ℤ by)) ≡ value +ℤ by) (sym value_is) (to_z-of_z w128 (value +ℤ by) (omega (arith, ints)));
    }

-- a path that has been found, named as the loop names it, and what is sent along it
pub record IsSent (es : List Edge) (source sink : ℕ) (levels : List (Option ℕ)) (xs xs' : List ℤ) (value by : ℤ) : Type 0 where
  pub sent : IsAugmented es source sink levels xs xs' by
  pub small : (value +ℤ by) ≤ℤ pos 100000000000000000000000000000000000000
  pub kept : AreKept value by

pub is_sent : {es : List Edge} {nodes : ℕ} {row : ℕ → List ℕ} {source sink : ℕ} {first : List (Option ℕ)} {xs xs' : List ℤ} {levels levels' : List (Option ℕ)} {spent spent' : List ℕ} {path named : List Step} {value by : ℤ} → IsBlocking es nodes row source sink first xs levels spent value
    → Walks es xs nodes row levels levels' spent spent' path source sink true → named ≡ path → (IsPath es xs levels' named source sink → IsAugmented es source sink levels' xs xs' by) → source ≢ sink → length es ≤ 50000 → pos 0 <ℤ by → IsSent es source sink levels' xs xs' value by
is_sent {es} {source = source} {sink} {xs = xs} {levels' = levels'} {value = value} {by} h w same augment apart few positive =
    let path = subst (λ (p : List Step). IsPath es xs levels' p source sink) (sym same) (w.leads refl) in
    let sent = augment path in
    let small = more_fits h sent apart few in
    record { sent = sent; small = small; kept = are_kept value by h.gained positive small }

-- no path is left: the next levels reach the sink later
pub blocking_done : {es : List Edge} {nodes : ℕ} {row : ℕ → List ℕ} {source sink : ℕ} {first : List (Option ℕ)} {xs : List ℤ} {levels levels' : List (Option ℕ)} {spent spent' : List ℕ} {path : List Step} {value : ℤ} → source ≢ sink → level_at first source ≡ Some 0 → IsBlocking es nodes row source sink first xs levels spent value → Walks es xs nodes row levels levels' spent spent' path source sink false → (last : ℕ) → level_at first sink ≡ Some last → IsFurther es xs source sink last
blocking_done {es} {nodes} {row} {source} {sink} {first} {xs} {levels} {levels'} {spent} {spent'} apart begun h w last goal next far built at =
    later es nodes row xs first levels' spent' last source sink (w.phase first last (h.phase last goal)) apart begun (w.ended refl) goal (w.sink_kept ∙ h.sink_kept ∙ goal) next built far at
