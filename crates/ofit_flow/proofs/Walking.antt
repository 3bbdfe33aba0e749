-- A walk from the source, step by step.
use Rattle.std.proofs.Common.{◌≡◌, ◌≢◌, ℕ, ◌<◌, ◌≤◌, ◌+◌, refl, ap, sym, ◌∙◌, subst, arith, true, false, List, [], ◌∷◌, ◌++◌, length, map, inl, inr, get_or, set, Option, Some, None, is_some}
use Rattle.std.specs.List.{count_by}
use Rattle.std.proofs.lemmas.Bool.{cases_eq, true≢false, false≢true}
use Rattle.std.proofs.lemmas.List.{get_or-set_same, get_or-set_other, length-set, length-map, map-append, get_or_append_left, get_or_push, get_or_default, length_push}
use Rattle.std.specs.Prelude.{ℤ}
use Rattle.ofit_flow.specs.declared.edge.Edge.{Edge}
use Rattle.ofit_flow.specs.declared.step.Step.{Step}
use Rattle.ofit_flow.specs.Levels.{level_at, AreLow}
use Rattle.ofit_flow.specs.Walk.{IsSpent, IsStepUp, IsPath, IsPhase, CanWalk, Walks, no_step, step_at, node_on}
use Rattle.ofit_flow.proofs.Searching.{same_some, none_some, levelled_from, levelled_within, node_past}
use Rattle.ofit_flow.proofs.Phase.{phase_passed, phase_died, fewer_at}

abbrev froms : List Step → List ℕ
froms path = map (λ (s : Step). s.from) path

froms_push : (path : List Step) (s : Step) → froms (path ++ s ∷ []) ≡ froms path ++ s.from ∷ []
froms_push path s = map-append (λ (t : Step). t.from) path (s ∷ [])

froms_counted : (path : List Step) → length (froms path) ≡ length path
froms_counted path = length-map path (λ (t : Step). t.from)

-- the nodes on a path are those on the path with a step more from its end
pub push_node : (path : List Step) (s : Step) (to i : ℕ) → i ≤ length path → node_on (path ++ s ∷ []) to i ≡ node_on path s.from i
push_node path s to i le = ap (λ (l : List ℕ). get_or l i to) (froms_push path s) ∙ elim (cases_eq i (length path)) [
  | inl is ↦ get_or_push (froms path) s.from to i (omega (arith, froms_counted path)) ∙ sym (ap (node_on path s.from) is ∙ node_past path s.from)
  | inr isnt ↦ get_or_append_left (froms path) (s.from ∷ []) to i (omega (arith, froms_counted path)) ∙ get_or_default (froms path) i to s.from (omega (arith, froms_counted path))
]

push_end : (path : List Step) (s : Step) (to : ℕ) → node_on (path ++ s ∷ []) to (length path + 1) ≡ to
push_end path s to = ap (node_on (path ++ s ∷ []) to) (sym (length_push path s)) ∙ node_past (path ++ s ∷ []) to

push_step : (path : List Step) (s : Step) (i : ℕ) → i < length path → step_at (path ++ s ∷ []) i ≡ step_at path i
push_step path s i b = get_or_append_left path (s ∷ []) no_step i b

push_last : (path : List Step) (s : Step) → step_at (path ++ s ∷ []) (length path) ≡ s
push_last path s = get_or_push path s no_step (length path) refl

-- a path of no step
pub path_none : (es : List Edge) (xs : List ℤ) (levels : List (Option ℕ)) (source : ℕ) → level_at levels source ≡ Some 0 → IsPath es xs levels [] source source
path_none es xs levels source at = record {
  first = refl;
  steps = λ i b. absurd (omega arith);
  linked = λ i b. absurd (omega arith);
  heights = λ i b. at ∙ ap Some (omega arith);
}

-- a step more
pub path_push : (es : List Edge) (xs : List ℤ) (levels : List (Option ℕ)) (path : List Step) (source node : ℕ) (s : Step) → IsPath es xs levels path source node → IsStepUp es xs levels node (length path + 1) s → IsPath es xs levels (path ++ s ∷ []) source s.to
path_push es xs levels path source node s p up =
    let same : (i : ℕ) → i ≤ length path → node_on (path ++ s ∷ []) s.to i ≡ node_on path node i = λ i le. push_node path s s.to i le ∙ ap (λ (n : ℕ). node_on path n i) up.from in
    record {
      first = same 0 (omega arith) ∙ p.first;
      steps = λ i b. elim (cases_eq i (length path)) [
        | inl is ↦
            let here : node_on (path ++ s ∷ []) s.to i ≡ node = same i (omega arith) ∙ ap (node_on path node) is ∙ node_past path node in
            let this : step_at (path ++ s ∷ []) i ≡ s = ap (step_at (path ++ s ∷ [])) is ∙ push_last path s in
            subst (λ (n : ℕ). IsStepUp es xs levels n (i + 1) (step_at (path ++ s ∷ []) i)) (sym here) (subst (λ (t : Step). IsStepUp es xs levels node (i + 1) t) (sym this) (subst (λ (n : ℕ). IsStepUp es xs levels node (n + 1) s) (sym is) up))
        | inr isnt ↦
            let low : i < length path = omega (arith, length_push path s) in
            subst (λ (n : ℕ). IsStepUp es xs levels n (i + 1) (step_at (path ++ s ∷ []) i)) (sym (same i (omega arith))) (subst (λ (t : Step). IsStepUp es xs levels (node_on path node i) (i + 1) t) (sym (push_step path s i low)) (p.steps i low))
      ];
      linked = λ i b. elim (cases_eq i (length path)) [
        | inl is ↦ ap (λ (t : Step). t.to) (ap (step_at (path ++ s ∷ [])) is ∙ push_last path s) ∙ sym (ap (λ (n : ℕ). node_on (path ++ s ∷ []) s.to (n + 1)) is ∙ push_end path s s.to)
        | inr isnt ↦
            let low : i < length path = omega (arith, length_push path s) in
            ap (λ (t : Step). t.to) (push_step path s i low) ∙ p.linked i low ∙ sym (same (i + 1) (omega arith))
      ];
      heights = λ i b. elim (cases_eq i (length path + 1)) [
        | inl is ↦ ap (λ (n : ℕ). level_at levels (node_on (path ++ s ∷ []) s.to n)) is ∙ ap (level_at levels) (push_end path s s.to) ∙ up.up ∙ ap Some (sym is)
        | inr isnt ↦ ap (level_at levels) (same i (omega (arith, length_push path s))) ∙ p.heights i (omega (arith, length_push path s))
      ];
    }

-- a step back from a node that loses its level
pub path_pop : (es : List Edge) (xs : List ℤ) (levels : List (Option ℕ)) (path : List Step) (source node : ℕ) (s : Step) → IsPath es xs levels (path ++ s ∷ []) source node → IsPath es xs (set levels node None) path source s.from
path_pop es xs levels path source node s p =
    let longer : length (path ++ s ∷ []) ≡ length path + 1 = length_push path s in
    let same : (i : ℕ) → i ≤ length path → node_on (path ++ s ∷ []) node i ≡ node_on path s.from i = push_node path s node in
    let top : level_at levels node ≡ Some (length path + 1) = ap (level_at levels) (sym (push_end path s node)) ∙ p.heights (length path + 1) (omega (arith, longer)) in
    let at : (i : ℕ) → i ≤ length path → level_at levels (node_on path s.from i) ≡ Some i = λ i le. ap (level_at levels) (sym (same i le)) ∙ p.heights i (omega (arith, longer)) in
    let kept : (v i : ℕ) → i ≤ length path → level_at levels v ≡ Some i → level_at (set levels node None) v ≡ Some i = λ v i le h. get_or-set_other levels node v None None (λ e. omega (arith, same_some i (length path + 1) (sym h ∙ ap (level_at levels) e ∙ top))) ∙ h in
    record {
      first = sym (same 0 (omega arith)) ∙ p.first;
      steps = λ i b.
          let up : IsStepUp es xs levels (node_on path s.from i) (i + 1) (step_at path i) = subst (λ (n : ℕ). IsStepUp es xs levels n (i + 1) (step_at path i)) (same i (omega arith)) (subst (λ (t : Step). IsStepUp es xs levels (node_on (path ++ s ∷ []) node i) (i + 1) t) (push_step path s i b) (p.steps i (omega (arith, longer)))) in
          record { from = up.from; arc = up.arc; room = up.room; up = kept (step_at path i).to (i + 1) (omega arith) up.up };
      linked = λ i b. ap (λ (t : Step). t.to) (sym (push_step path s i b)) ∙ p.linked i (omega (arith, longer)) ∙ same (i + 1) (omega arith);
      heights = λ i le. kept (node_on path s.from i) i le (at i le);
    }

-- a walk that has come to the node
pub record IsWalking (es : List Edge) (xs : List ℤ) (nodes : ℕ) (row : ℕ → List ℕ) (levels levels' : List (Option ℕ)) (spent spent' : List ℕ) (path : List Step) (source sink node : ℕ) : Type 0 where
  pub can : CanWalk es xs nodes row levels' spent'
  pub sink_kept : level_at levels' sink ≡ level_at levels sink
  pub phase : (first : List (Option ℕ)) (last : ℕ) → IsPhase es nodes row xs first levels spent last → IsPhase es nodes row xs first levels' spent' last
  pub way : IsPath es xs levels' path source node

pub walking_first : (es : List Edge) (xs : List ℤ) (nodes : ℕ) (row : ℕ → List ℕ) (levels : List (Option ℕ)) (spent : List ℕ) (source sink : ℕ) → CanWalk es xs nodes row levels spent → level_at levels source ≡ Some 0 → IsWalking es xs nodes row levels levels spent spent [] source sink source
walking_first es xs nodes row levels spent source sink can at = record {
  can = can;
  sink_kept = refl;
  phase = λ first last h. h;
  way = path_none es xs levels source at;
}

-- a node has come to its place
module _ {es : List Edge} {xs : List ℤ} {nodes : ℕ} {row : ℕ → List ℕ} {levels levels' : List (Option ℕ)} {spent spent' : List ℕ} {path : List Step} {source sink node : ℕ} (w : IsWalking es xs nodes row levels levels' spent spent' path source sink node) where
  pub node_level : level_at levels' node ≡ Some (length path)
  node_level = ap (level_at levels') (sym (node_past path node)) ∙ w.way.heights (length path) (omega arith)

  pub node_in : node < nodes
  node_in = omega (arith, w.can.counted, levelled_within levels' node (levelled_from levels' node (length path) node_level))

  pub path_short : length path < nodes
  path_short = w.can.low node (length path) node_level

  pub walking_spent : (p : ℕ) → p ≤ length (row node) → ((i : ℕ) → get_or spent' node 0 ≤ i → i < p → IsSpent es xs levels' node (length path + 1) (get_or (row node) i 0)) → IsWalking es xs nodes row levels levels' spent (set spent' node p) path source sink node
  walking_spent p le more = record {
    can = record {
      net = w.can.net;
      rows = w.can.rows;
      counted = w.can.counted;
      low = w.can.low;
      kept = record {
        counted = length-set spent' node p ∙ w.can.kept.counted;
        within = λ v v_in. elim (cases_eq v node) [
          | inl is ↦ omega (arith, ap (λ (n : ℕ). get_or (set spent' node p) n 0) is, get_or-set_same spent' node p 0 (omega (arith, w.can.kept.counted, node_in)), ap (λ (n : ℕ). length (row n)) is, le)
          | inr isnt ↦ omega (arith, get_or-set_other spent' node v p 0 isnt, w.can.kept.within v v_in)
        ];
      };
    };
    sink_kept = w.sink_kept;
    phase = λ first last h. phase_passed es nodes row xs first levels' spent' last node (length path) p (omega (arith, w.can.kept.counted, node_in)) node_level more (w.phase first last h);
    way = w.way;
  }

  -- the same, as the call that passes the edges over tells it
  pub walking_advanced : (row' : List ℕ) (above : ℕ) (new : List ℕ) → row' ≡ row node → above ≡ length path + 1 → new ≡ set spent' node (get_or new node 0) → get_or new node 0 ≤ length row' → ((i : ℕ) → get_or spent' node 0 ≤ i → i < get_or new node 0 → IsSpent es xs levels' node above (get_or row' i 0)) → IsWalking es xs nodes row levels levels' spent new path source sink node
  walking_advanced row' above new is above_is new_is le passed =
      subst (λ (s : List ℕ). IsWalking es xs nodes row levels levels' spent s path source sink node) (sym new_is)
      (walking_spent (get_or new node 0) (omega (arith, le, ap (length {A = ℕ}) is))
      (λ i low high. subst (λ (l : ℕ). IsSpent es xs levels' node l (get_or (row node) i 0)) above_is (subst (λ (r : List ℕ). IsSpent es xs levels' node above (get_or r i 0)) is (passed i low high))))

  pub walking_push : (s : Step) → IsStepUp es xs levels' node (length path + 1) s → IsWalking es xs nodes row levels levels' spent spent' (path ++ s ∷ []) source sink s.to
  walking_push s up = record {
    can = w.can;
    sink_kept = w.sink_kept;
    phase = w.phase;
    way = path_push es xs levels' path source node s w.way up;
  }

  low_without : AreLow (set levels' node None) nodes
  low_without v l h = elim (cases_eq v node) [
    | inl is ↦ absurd (none_some (level_at (set levels' node None) v) l (ap (level_at (set levels' node None)) is ∙ get_or-set_same levels' node None None (omega (arith, w.can.counted, node_in))) h)
    | inr isnt ↦ w.can.low v l (sym (get_or-set_other levels' node v None None isnt) ∙ h)
  ]

  can_without : CanWalk es xs nodes row (set levels' node None) spent'
  can_without = record {
    net = w.can.net;
    rows = w.can.rows;
    counted = length-set levels' node None ∙ w.can.counted;
    low = low_without;
    kept = w.can.kept;
  }

  pub gone : level_at (set levels' node None) node ≡ None
  gone = get_or-set_same levels' node None None (omega (arith, w.can.counted, node_in))

  -- the node loses its level
  pub lost : node ≢ sink → get_or spent' node 0 ≡ length (row node) → CanWalk es xs nodes row (set levels' node None) spent' × (level_at (set levels' node None) sink ≡ level_at levels sink) × ((first : List (Option ℕ)) (last : ℕ) → IsPhase es nodes row xs first levels spent last → IsPhase es nodes row xs first (set levels' node None) spent' last)
  lost apart all = (
    can_without,
    get_or-set_other levels' node sink None None (λ e. apart (sym e)) ∙ w.sink_kept,
    λ first last h. phase_died es nodes row xs first levels' spent' last node (length path) w.can.rows node_in (omega (arith, w.can.counted, node_in)) node_level all (w.phase first last h),
  )

  pub fewer : count_by is_some (set levels' node None) + 1 ≡ count_by is_some levels'
  fewer = fewer_at levels' node (length path) (omega (arith, w.can.counted, node_in)) node_level

-- the walk goes on from the step before
pub walking_pop : {es : List Edge} {xs : List ℤ} {nodes : ℕ} {row : ℕ → List ℕ} {levels levels' : List (Option ℕ)} {spent spent' : List ℕ} {path : List Step} {source sink node : ℕ} (s : Step) → IsWalking es xs nodes row levels levels' spent spent' (path ++ s ∷ []) source sink node → node ≢ sink → get_or spent' node 0 ≡ length (row node) → IsWalking es xs nodes row levels (set levels' node None) spent spent' path source sink s.from
walking_pop {es} {xs} {levels' = levels'} {path = path} {source} {node = node} s w apart all =
    let without = lost w apart all in
    record { can = without.0; sink_kept = without.1; phase = without.2; way = path_pop es xs levels' path source node s w.way }

-- no step is left to go back
pub walking_ended : {es : List Edge} {xs : List ℤ} {nodes : ℕ} {row : ℕ → List ℕ} {levels levels' : List (Option ℕ)} {spent spent' : List ℕ} {path : List Step} {source sink node : ℕ} → IsWalking es xs nodes row levels levels' spent spent' path source sink node → path ≡ [] → node ≢ sink → get_or spent' node 0 ≡ length (row node) → (path' : List Step) → Walks es xs nodes row levels (set levels' node None) spent spent' path' source sink false
walking_ended {levels' = levels'} {source = source} {node = node} w none apart all path' =
    let without = lost w apart all in
    let here : node ≡ source = sym (ap (λ (p : List Step). node_on p node 0) none) ∙ w.way.first in
    record {
      can = without.0;
      sink_kept = without.1;
      phase = without.2;
      leads = λ e. absurd (false≢true e);
      ended = λ e. ap (level_at (set levels' node None)) (sym here) ∙ gone w;
    }

pub walking_found : {es : List Edge} {xs : List ℤ} {nodes : ℕ} {row : ℕ → List ℕ} {levels levels' : List (Option ℕ)} {spent spent' : List ℕ} {path : List Step} {source sink node : ℕ} → IsWalking es xs nodes row levels levels' spent spent' path source sink node → node ≡ sink → Walks es xs nodes row levels levels' spent spent' path source sink true
walking_found {es} {xs} {levels' = levels'} {path = path} {source} w is = record {
  can = w.can;
  sink_kept = w.sink_kept;
  phase = w.phase;
  leads = λ e. subst (IsPath es xs levels' path source) is w.way;
  ended = λ e. absurd (true≢false e);
}
