-- A path from the source to the sink, one step at a time.
use Rattle.std.proofs.Common.{◌≡◌, ◌≢◌, ℕ, zero, suc, ◌<◌, ◌≤◌, ◌+◌, ◌⊎◌, refl, ap, sym, ◌∙◌, subst, arith, List, [], ◌∷◌, length, Bool, true, false, cond, eqb, inl, inr, get_or, set, Option, Some, not, ◌&&◌, replicate, ◌*◌}
use Rattle.std.proofs.lemmas.Int.{ints}
use Rattle.std.proofs.lemmas.Bool.{cases_eq, eq-eqb, ne_eqb}
use borrow.Author.Differences.{up}
use Rattle.std.specs.List.{All}
use Rattle.std.proofs.lemmas.List.{get_or-set_same, get_or-set_other, get_or-replicate, get_or_default, length-replicate, length-set}
use Rattle.std.proofs.lemmas.List.Elements.{All-head, All-tail}
use Rattle.std.specs.Prelude.{ℤ, pos, negsuc, ◌+ℤ◌, ◌-ℤ◌, ◌≤ℤ◌, ◌<ℤ◌}
use Rattle.ofit_flow.specs.declared.edge.Edge.{Edge}
use Rattle.ofit_flow.specs.declared.step.Step.{Step}
use Rattle.ofit_flow.specs.Flow.{total, no_edge, edge_at, amount_at, given_out, taken_in, value_of, IsWithin, IsFlow}
use Rattle.ofit_flow.specs.Cut.{IsCut, capacity}
use Rattle.ofit_flow.specs.Network.{CanAdd}
use Rattle.ofit_flow.specs.Residual.{other_end, residual, pushed, Touches}
use Rattle.ofit_flow.proofs.Optimal.{value-le-capacity}
use Rattle.ofit_flow.specs.Levels.{level_at}
use Rattle.ofit_flow.specs.Search.{height}
use Rattle.ofit_flow.specs.Walk.{step_at, node_on, no_step, IsPath, IsWay, IsAugmented, FallsOnly, LeadsDown}
use Rattle.ofit_flow.proofs.Searching.{same_some, height_is, node_past}
use Rattle.ofit_flow.proofs.Crossing.{node_part, net_out, net_out_is}

-- what a change of one amount does to a sum
pub total-set : (f : Edge → ℤ → ℤ) (es : List Edge) (xs : List ℤ) (k : ℕ) (y : ℤ) → length xs ≡ length es → k < length es → total f es (set xs k y) +ℤ f (edge_at es k) (amount_at xs k) ≡ total f es xs +ℤ f (edge_at es k) y
total-set f [] xs k y h b = absurd (omega arith)
total-set f (e ∷ es) [] k y h b = absurd (omega (arith, h))
total-set f (e ∷ es) (x ∷ xs) zero y h b = omega (arith, ints)
total-set f (e ∷ es) (x ∷ xs) (suc k) y h b = omega (arith, ints, total-set f es xs k y (omega (arith, h)) (omega arith))

-- what stands at one node alone
abbrev pub at_node : ℕ → ℤ → ℕ → ℤ
at_node u by v = cond (eqb u v) by (pos 0)

-- an edge that carries more from u takes more from u and less from its other end
pushed_part : (e : Edge) (x by : ℤ) (u v : ℕ) → Touches e u → node_part v e (pushed e x u by) ≡ node_part v e x +ℤ (at_node u by v -ℤ at_node (other_end e u) by v)
pushed_part e x by u v t = elim (cases_eq e.from u) [
  | inl is ↦
      let yes : eqb e.from u ≡ true = eq-eqb e.from u is in
      subst (λ (b : Bool). node_part v e (cond b (x +ℤ by) (x -ℤ by)) ≡ node_part v e x +ℤ (at_node u by v -ℤ at_node (cond b e.to e.from) by v)) (sym yes)
      (subst (λ (w : ℕ). node_part v e (x +ℤ by) ≡ node_part v e x +ℤ (at_node w by v -ℤ at_node e.to by v)) is (forwards (eqb e.from v) (eqb e.to v)))
  | inr isnt ↦
      let no : eqb e.from u ≡ false = ne_eqb e.from u isnt in
      subst (λ (b : Bool). node_part v e (cond b (x +ℤ by) (x -ℤ by)) ≡ node_part v e x +ℤ (at_node u by v -ℤ at_node (cond b e.to e.from) by v)) (sym no)
      (elim t [
        | inl is ↦ absurd (isnt is)
        | inr is ↦ subst (λ (w : ℕ). node_part v e (x -ℤ by) ≡ node_part v e x +ℤ (at_node w by v -ℤ at_node e.from by v)) is (backwards (eqb e.from v) (eqb e.to v))
      ])
] where
  forwards : (p q : Bool) → cond p (x +ℤ by) (pos 0) -ℤ cond q (x +ℤ by) (pos 0) ≡ (cond p x (pos 0) -ℤ cond q x (pos 0)) +ℤ (cond p by (pos 0) -ℤ cond q by (pos 0))
  forwards true true = omega (arith, ints)
  forwards true false = omega (arith, ints)
  forwards false true = omega (arith, ints)
  forwards false false = omega (arith, ints)

  backwards : (p q : Bool) → cond p (x -ℤ by) (pos 0) -ℤ cond q (x -ℤ by) (pos 0) ≡ (cond p x (pos 0) -ℤ cond q x (pos 0)) +ℤ (cond q by (pos 0) -ℤ cond p by (pos 0))
  backwards true true = omega (arith, ints)
  backwards true false = omega (arith, ints)
  backwards false true = omega (arith, ints)
  backwards false false = omega (arith, ints)

net_out-pushed : (es : List Edge) (xs : List ℤ) (k u : ℕ) (by : ℤ) (v : ℕ) → length xs ≡ length es → k < length es → Touches (edge_at es k) u
    → net_out v es (set xs k (pushed (edge_at es k) (amount_at xs k) u by)) ≡ net_out v es xs +ℤ (at_node u by v -ℤ at_node (other_end (edge_at es k) u) by v)
net_out-pushed es xs k u by v h b t =
    let e : Edge = edge_at es k in
    let part : node_part v e (pushed e (amount_at xs k) u by) ≡ node_part v e (amount_at xs k) +ℤ (at_node u by v -ℤ at_node (other_end e u) by v) = pushed_part e (amount_at xs k) by u v t in
    let sums : net_out v es (set xs k (pushed e (amount_at xs k) u by)) +ℤ node_part v e (amount_at xs k) ≡ net_out v es xs +ℤ node_part v e (pushed e (amount_at xs k) u by) = total-set (node_part v) es xs k (pushed e (amount_at xs k) u by) h b in
    added (net_out v es (set xs k (pushed e (amount_at xs k) u by))) (node_part v e (amount_at xs k)) (net_out v es xs) (node_part v e (pushed e (amount_at xs k) u by)) (at_node u by v -ℤ at_node (other_end e u) by v) sums part where
      added : (a p c q d : ℤ) → a +ℤ p ≡ c +ℤ q → q ≡ p +ℤ d → a ≡ c +ℤ d
      added a p c q d h k = omega (arith, ints)

-- an amount stays within the capacity, where no more is sent than the edge can carry
pub pushed_within : (e : Edge) (x by : ℤ) (u : ℕ) → pos 0 ≤ℤ x → x ≤ℤ e.cap → pos 0 ≤ℤ by → by ≤ℤ residual e x u → (pos 0 ≤ℤ pushed e x u by) × (pushed e x u by ≤ℤ e.cap)
pushed_within e x by u low high positive room = within (eqb e.from u) room where
  within : (b : Bool) → by ≤ℤ cond b (e.cap -ℤ x) x → (pos 0 ≤ℤ cond b (x +ℤ by) (x -ℤ by)) × (cond b (x +ℤ by) (x -ℤ by) ≤ℤ e.cap)
  within true r = (omega (arith, ints), omega (arith, ints))
  within false r = (omega (arith, ints), omega (arith, ints))

IsWithin-set : (es : List Edge) (xs : List ℤ) (k : ℕ) (y : ℤ) → IsWithin es xs → k < length es → pos 0 ≤ℤ y → y ≤ℤ (edge_at es k).cap → IsWithin es (set xs k y)
IsWithin-set es xs k y h b low high = record {
  counted = length-set xs k y ∙ h.counted;
  low = λ i l. elim (cases_eq i k) [
    | inl is ↦ subst (λ (z : ℤ). pos 0 ≤ℤ z) (sym (same i is)) low
    | inr isnt ↦ subst (λ (z : ℤ). pos 0 ≤ℤ z) (sym (other i isnt)) (h.low i l)
  ];
  high = λ i l. elim (cases_eq i k) [
    | inl is ↦ subst (λ (z : ℤ). z ≤ℤ (edge_at es i).cap) (sym (same i is)) (subst (λ (j : ℕ). y ≤ℤ (edge_at es j).cap) (sym is) high)
    | inr isnt ↦ subst (λ (z : ℤ). z ≤ℤ (edge_at es i).cap) (sym (other i isnt)) (h.high i l)
  ];
} where
  same : (i : ℕ) → i ≡ k → amount_at (set xs k y) i ≡ y
  same i is = ap (amount_at (set xs k y)) is ∙ get_or-set_same xs k y (pos 0) (omega (arith, h.counted, b))

  other : (i : ℕ) → i ≢ k → amount_at (set xs k y) i ≡ amount_at xs i
  other i isnt = get_or-set_other xs k i y (pos 0) isnt

residual-pushed : (e : Edge) (x by : ℤ) (u : ℕ) → residual e (pushed e x u by) u ≡ residual e x u -ℤ by
residual-pushed e x by u = parted (eqb e.from u) where
  parted : (b : Bool) → cond b (e.cap -ℤ cond b (x +ℤ by) (x -ℤ by)) (cond b (x +ℤ by) (x -ℤ by)) ≡ cond b (e.cap -ℤ x) x -ℤ by
  parted true = omega (arith, ints)
  parted false = omega (arith, ints)

-- an edge has two ends
ends_of : (e : Edge) (u w : ℕ) → Touches e u → other_end e u ≡ w → ((e.from ≡ u) × (e.to ≡ w)) ⊎ ((e.from ≡ w) × (e.to ≡ u))
ends_of e u w t a = elim (cases_eq e.from u) [
  | inl is ↦ inl (is, sym (ap (λ (b : Bool). cond b e.to e.from) (eq-eqb e.from u is)) ∙ a)
  | inr isnt ↦ elim t [
    | inl is ↦ absurd (isnt is)
    | inr is ↦ inr (sym (ap (λ (b : Bool). cond b e.to e.from) (ne_eqb e.from u isnt)) ∙ a, is)
  ]
]

other_way : (e : Edge) (u w : ℕ) → Touches e u → other_end e u ≡ w → u ≢ w → other_end e w ≡ u
other_way e u w t a d = elim (ends_of e u w t a) [
  | inl is ↦ ap (λ (b : Bool). cond b e.to e.from) (ne_eqb e.from w (λ h. d (sym is.0 ∙ h))) ∙ is.0
  | inr is ↦ ap (λ (b : Bool). cond b e.to e.from) (eq-eqb e.from w is.0) ∙ is.1
]

either_end : (e : Edge) (u w v : ℕ) → Touches e u → other_end e u ≡ w → Touches e v → (v ≡ u) ⊎ (v ≡ w)
either_end e u w v t a s = elim (ends_of e u w t a) [
  | inl is ↦ elim s [
    | inl h ↦ inl (sym h ∙ is.0)
    | inr h ↦ inr (sym h ∙ is.1)
  ]
  | inr is ↦ elim s [
    | inl h ↦ inr (sym h ∙ is.0)
    | inr h ↦ inl (sym h ∙ is.1)
  ]
]

-- the steps of a path go along different edges, since the levels of an edge's ends sum to what only one step gives
module _ (es : List Edge) (xs : List ℤ) (levels : List (Option ℕ)) (path : List Step) (source sink : ℕ) (p : IsPath es xs levels path source sink) where
  path_level : (i : ℕ) → i ≤ length path → height levels (node_on path sink i) ≡ i
  path_level i b = height_is levels (node_on path sink i) i (p.heights i b)

  pub path_arrives : (i : ℕ) → i < length path → other_end (edge_at es (step_at path i).edge) (node_on path sink i) ≡ node_on path sink (i + 1)
  path_arrives i b = (p.steps i b).arc.arrives ∙ p.linked i b

  ends_level : (i : ℕ) → i < length path → height levels (edge_at es (step_at path i).edge).from + height levels (edge_at es (step_at path i).edge).to ≡ i + (i + 1)
  ends_level i b = elim (ends_of (edge_at es (step_at path i).edge) (node_on path sink i) (node_on path sink (i + 1)) (p.steps i b).arc.leaves (path_arrives i b)) [
    | inl is ↦ omega (arith, ap (height levels) is.0, ap (height levels) is.1, path_level i (omega arith), path_level (i + 1) (omega arith))
    | inr is ↦ omega (arith, ap (height levels) is.0, ap (height levels) is.1, path_level i (omega arith), path_level (i + 1) (omega arith))
  ]

  pub other_edge : (i j : ℕ) → i < j → j < length path → (step_at path j).edge ≢ (step_at path i).edge
  other_edge i j less b is =
      omega (arith, ends_level i (omega arith), ends_level j b, ap (λ (k : ℕ). height levels (edge_at es k).from + height levels (edge_at es k).to) is)

-- so many steps of a path have carried `by` more since the amounts were `before`
pub record IsSent (es : List Edge) (before : List ℤ) (path : List Step) (by : ℤ) (i : ℕ) (xs : List ℤ) : Type 0 where
  pub within : IsWithin es xs
  pub untouched : (j : ℕ) → i ≤ j → j < length path → amount_at xs (step_at path j).edge ≡ amount_at before (step_at path j).edge
  pub moved : (levels : List (Option ℕ)) (source sink : ℕ) → IsPath es before levels path source sink → (v : ℕ) → net_out v es xs ≡ net_out v es before +ℤ (at_node source by v -ℤ at_node (node_on path sink i) by v)
  pub falls : (levels : List (Option ℕ)) (source sink : ℕ) → IsPath es before levels path source sink → FallsOnly es levels before xs

pub sent_none : (es : List Edge) (before : List ℤ) (path : List Step) (by : ℤ) → IsWay es before path by → IsSent es before path by 0 before
sent_none es before path by way = record {
  within = way.net.within;
  untouched = λ j a b. refl;
  moved = λ levels source sink p v. none (net_out v es before) (at_node source by v) (at_node (node_on path sink 0) by v) (ap (λ (w : ℕ). at_node w by v) p.first);
  falls = λ levels source sink p k w b t. inl (omega (arith, ints));
} where
  none : (a c d : ℤ) → d ≡ c → a ≡ a +ℤ (c -ℤ d)
  none a c d h = omega (arith, ints)

-- a further step
module _ (es : List Edge) (before : List ℤ) (path : List Step) (by : ℤ) (i : ℕ) (xs : List ℤ) (way : IsWay es before path by) (positive : pos 0 ≤ℤ by) (b : i < length path) (h : IsSent es before path by i xs) where
  abbrev this : Step
  this = step_at path i

  abbrev this_edge : Edge
  this_edge = edge_at es this.edge

  abbrev sent : List ℤ
  sent = set xs this.edge (pushed this_edge (amount_at xs this.edge) this.from by)

  pub step_numbered : this.edge < length es
  step_numbered = (way.way.steps i b).arc.numbered

  leaves : Touches this_edge this.from
  leaves = subst (Touches this_edge) (sym (way.way.steps i b).from) (way.way.steps i b).arc.leaves

  pub step_room : by ≤ℤ residual this_edge (amount_at xs this.edge) this.from
  step_room =
      let room : this.room ≡ residual this_edge (amount_at before this.edge) this.from = (way.way.steps i b).room ∙ ap (residual this_edge (amount_at before this.edge)) (sym (way.way.steps i b).from) in
      let wide : by ≤ℤ this.room = way.wide i no_step b in
      subst (λ (x : ℤ). by ≤ℤ residual this_edge x this.from) (sym (h.untouched i (omega arith) b)) (omega (arith, ints, room, wide))

  sent_within : (pos 0 ≤ℤ pushed this_edge (amount_at xs this.edge) this.from by) × (pushed this_edge (amount_at xs this.edge) this.from by ≤ℤ this_edge.cap)
  sent_within = pushed_within this_edge (amount_at xs this.edge) by this.from (h.within.low this.edge step_numbered) (h.within.high this.edge step_numbered) positive step_room

  this_in : this.edge < length xs
  this_in = omega (arith, h.within.counted, step_numbered)

  elsewhere : (k : ℕ) → k ≢ this.edge → amount_at sent k ≡ amount_at xs k
  elsewhere k d = get_or-set_other xs this.edge k (pushed this_edge (amount_at xs this.edge) this.from by) (pos 0) d

  step_moved : (levels : List (Option ℕ)) (source sink : ℕ) → IsPath es before levels path source sink → (v : ℕ) → net_out v es sent ≡ net_out v es before +ℤ (at_node source by v -ℤ at_node (node_on path sink (i + 1)) by v)
  step_moved levels source sink p v =
      let from : this.from ≡ node_on path sink i = (p.steps i b).from in
      let to : other_end this_edge this.from ≡ node_on path sink (i + 1) = ap (other_end this_edge) from ∙ path_arrives es before levels path source sink p i b in
      let step : net_out v es sent ≡ net_out v es xs +ℤ (at_node this.from by v -ℤ at_node (other_end this_edge this.from) by v) = net_out-pushed es xs this.edge this.from by v h.within.counted step_numbered leaves in
      joined (net_out v es sent) (net_out v es xs) (net_out v es before) (at_node source by v) (at_node (node_on path sink i) by v) (at_node (node_on path sink (i + 1)) by v) (at_node this.from by v) (at_node (other_end this_edge this.from) by v)
      step (ap (λ (w : ℕ). at_node w by v) from) (ap (λ (w : ℕ). at_node w by v) to) (h.moved levels source sink p v) where
        joined : (a x c s n m f t : ℤ) → a ≡ x +ℤ (f -ℤ t) → f ≡ n → t ≡ m → x ≡ c +ℤ (s -ℤ n) → a ≡ c +ℤ (s -ℤ m)
        joined a x c s n m f t h j k q = omega (arith, ints)

  -- along this step's edge only the way back can carry more
  falls_here : (levels : List (Option ℕ)) (source sink : ℕ) → IsPath es before levels path source sink → (w : ℕ) → Touches this_edge w → (residual this_edge (amount_at sent this.edge) w ≤ℤ residual this_edge (amount_at xs this.edge) w) ⊎ LeadsDown levels w (other_end this_edge w)
  falls_here levels source sink p w t =
      let from : this.from ≡ node_on path sink i = (p.steps i b).from in
      let to : other_end this_edge this.from ≡ node_on path sink (i + 1) = ap (other_end this_edge) from ∙ path_arrives es before levels path source sink p i b in
      let low : level_at levels this.from ≡ Some i = ap (level_at levels) from ∙ p.heights i (omega arith) in
      let high : level_at levels (node_on path sink (i + 1)) ≡ Some (i + 1) = p.heights (i + 1) (omega arith) in
      elim (either_end this_edge this.from (node_on path sink (i + 1)) w leaves to t) [
        | inl is ↦
            let now : amount_at sent this.edge ≡ pushed this_edge (amount_at xs this.edge) this.from by = get_or-set_same xs this.edge (pushed this_edge (amount_at xs this.edge) this.from by) (pos 0) this_in in
            let less : residual this_edge (pushed this_edge (amount_at xs this.edge) this.from by) this.from ≤ℤ residual this_edge (amount_at xs this.edge) this.from = omega (arith, ints, residual-pushed this_edge (amount_at xs this.edge) by this.from) in
            inl (subst (λ (v : ℕ). residual this_edge (amount_at sent this.edge) v ≤ℤ residual this_edge (amount_at xs this.edge) v) (sym is) (subst (λ (x : ℤ). residual this_edge x this.from ≤ℤ residual this_edge (amount_at xs this.edge) this.from) (sym now) less))
        | inr is ↦
            let apart : this.from ≢ node_on path sink (i + 1) = λ e. omega (arith, same_some i (i + 1) (sym low ∙ ap (level_at levels) e ∙ high)) in
            let back : other_end this_edge w ≡ this.from = ap (other_end this_edge) is ∙ other_way this_edge this.from (node_on path sink (i + 1)) leaves to apart in
            inr (record { level = i; here = ap (level_at levels) is ∙ high; there = ap (level_at levels) back ∙ low })
      ]

  step_falls : (levels : List (Option ℕ)) (source sink : ℕ) → IsPath es before levels path source sink → FallsOnly es levels before sent
  step_falls levels source sink p k w k_in t = elim (h.falls levels source sink p k w k_in t) [
    | inr down ↦ inr down
    | inl less ↦ elim (cases_eq k this.edge) [
      | inr isnt ↦ inl (subst (λ (x : ℤ). residual (edge_at es k) x w ≤ℤ residual (edge_at es k) (amount_at before k) w) (sym (elsewhere k isnt)) less)
      | inl is ↦
          let touches : Touches this_edge w = subst (λ (n : ℕ). Touches (edge_at es n) w) is t in
          let less' : residual this_edge (amount_at xs this.edge) w ≤ℤ residual this_edge (amount_at before this.edge) w = subst (λ (n : ℕ). residual (edge_at es n) (amount_at xs n) w ≤ℤ residual (edge_at es n) (amount_at before n) w) is less in
          elim (falls_here levels source sink p w touches) [
            | inl now ↦ inl (subst (λ (n : ℕ). residual (edge_at es n) (amount_at sent n) w ≤ℤ residual (edge_at es n) (amount_at before n) w) (sym is) (omega (arith, ints, now, less')))
            | inr down ↦ inr (subst (λ (n : ℕ). LeadsDown levels w (other_end (edge_at es n) w)) (sym is) down)
          ]
    ]
  ]

  pub sent_more : IsSent es before path by (i + 1) sent
  sent_more = record {
    within = IsWithin-set es xs this.edge (pushed this_edge (amount_at xs this.edge) this.from by) h.within step_numbered sent_within.0 sent_within.1;
    untouched = λ j a c. elsewhere (step_at path j).edge (other_edge es before way.levels path way.source way.sink way.way i j (omega arith) c) ∙ h.untouched j (omega arith) c;
    moved = step_moved;
    falls = step_falls;
  }

-- what has moved from the source to the sink alone leaves a flow
through : (es : List Edge) (before : List ℤ) (source sink : ℕ) (by : ℤ) (xs : List ℤ) → source ≢ sink → IsFlow es source sink before → IsWithin es xs → ((v : ℕ) → net_out v es xs ≡ net_out v es before +ℤ (at_node source by v -ℤ at_node sink by v)) → IsFlow es source sink xs × (value_of es source xs ≡ value_of es source before +ℤ by)
through es before source sink by xs apart flow within moved = (
  record {
    within = within;
    conserved = λ v s t.
        let here : at_node source by v ≡ pos 0 = ap (λ (b : Bool). cond b by (pos 0)) (ne_eqb source v (λ e. s (sym e))) in
        let there : at_node sink by v ≡ pos 0 = ap (λ (b : Bool). cond b by (pos 0)) (ne_eqb sink v (λ e. t (sym e))) in
        omega (arith, ints, here, there, moved v, net_out_is v es xs, net_out_is v es before, flow.conserved v s t);
  },
  let here : at_node source by source ≡ by = ap (λ (b : Bool). cond b by (pos 0)) (eq-eqb source source refl) in
      let there : at_node sink by source ≡ pos 0 = ap (λ (b : Bool). cond b by (pos 0)) (ne_eqb sink source (λ e. apart (sym e))) in
      omega (arith, ints, here, there, moved source, net_out_is source es xs, net_out_is source es before),
)

-- once all steps have, the flow has risen by `by`
pub sent_all : (es : List Edge) (before : List ℤ) (path : List Step) (by : ℤ) (xs : List ℤ) (levels : List (Option ℕ)) (source sink : ℕ) → IsSent es before path by (length path) xs → source ≢ sink → IsFlow es source sink before → IsPath es before levels path source sink → IsAugmented es source sink levels before xs by
sent_all es before path by xs levels source sink h apart flow p =
    let moved : (v : ℕ) → net_out v es xs ≡ net_out v es before +ℤ (at_node source by v -ℤ at_node sink by v) = λ v. subst (λ (w : ℕ). net_out v es xs ≡ net_out v es before +ℤ (at_node source by v -ℤ at_node w by v)) (node_past path sink) (h.moved levels source sink p v) in
    let whole = through es before source sink by xs apart flow h.within moved in
    record { flow = whole.0; value = whole.1; falls = h.falls levels source sink p }

-- the source alone
abbrev pub only : ℕ → ℕ → Bool
only source v = eqb v source

pub only_cut : (source sink : ℕ) → source ≢ sink → IsCut source sink (only source)
only_cut source sink apart = record {
  has_source = eq-eqb source source refl;
  lacks_sink = ne_eqb sink source (λ e. apart (sym e));
}

-- so many edges of so much capacity
capacity-le : (set : ℕ → Bool) (es : List Edge) (most n : ℕ) → All (λ e. e.cap ≤ℤ pos most) es → length es ≤ n → capacity set es ≤ℤ pos (n * most)
capacity-le set [] most n h b = omega (arith, ints)
capacity-le set (e ∷ es) most zero h b = absurd (omega arith)
capacity-le set (e ∷ es) most (suc n) h b =
    omega (arith, ints, part (set e.from && not (set e.to)) e.cap (All-head (λ (d : Edge). d.cap ≤ℤ pos most) e es h), capacity-le set es most n (All-tail (λ (d : Edge). d.cap ≤ℤ pos most) e es h) (omega arith)) where
      part : (b : Bool) (c : ℤ) → c ≤ℤ pos most → cond b c (pos 0) ≤ℤ pos most
      part true c h = h
      part false c h = omega (arith, ints)

-- the value of a flow fits
pub value-small : (es : List Edge) (source sink : ℕ) (xs : List ℤ) (nodes : ℕ) → source ≢ sink → IsFlow es source sink xs → All (CanAdd nodes) es → length es ≤ 50000 → value_of es source xs ≤ℤ pos 100000000000000000000000000000000000000
value-small es source sink xs nodes apart flow adds few =
    let bound : capacity (only source) es ≤ℤ pos (50000 * 2000000000000000000000000000000000) = capacity-le (only source) es 2000000000000000000000000000000000 50000 (λ k d b. (adds k d b).cap_high) few in
    omega (arith, ints, value-le-capacity es source sink xs (only source) flow (only_cut source sink apart), bound)

pub no_flow : (es : List Edge) (source sink nodes : ℕ) (xs : List ℤ) → All (CanAdd nodes) es → xs ≡ replicate (length es) (pos 0) → IsFlow es source sink xs × (pos 0 ≡ value_of es source xs)
no_flow es source sink nodes xs adds is = (
  record {
    within = record {
      counted = ap length is ∙ length-replicate (length es) (pos 0);
      low = λ k b. omega (arith, ints, nothing k b);
      high = λ k b. omega (arith, ints, nothing k b, subst (λ (e : Edge). pos 0 ≤ℤ e.cap) (same_edge k b) (adds k (edge_at es k) b).cap_low);
    };
    conserved = λ v s t. omega (arith, ints, nothing_out v, nothing_in v);
  },
  omega (arith, ints, nothing_out source, nothing_in source),
) where
  nothing : (k : ℕ) → k < length es → amount_at xs k ≡ pos 0
  nothing k b = ap (λ (ys : List ℤ). amount_at ys k) is ∙ get_or-replicate (length es) k (pos 0) (pos 0) b

  same_edge : (k : ℕ) → k < length es → get_or es k (edge_at es k) ≡ edge_at es k
  same_edge k b = get_or_default es k (edge_at es k) no_edge b

  zero_total : (side : Edge → ℕ) (v : ℕ) (ds : List Edge) (n : ℕ) → total (λ e x. cond (eqb (side e) v) x (pos 0)) ds (replicate n (pos 0)) ≡ pos 0
  zero_total side v [] n = refl
  zero_total side v (d ∷ ds) zero = refl
  zero_total side v (d ∷ ds) (suc n) = omega (arith, ints, zero_cond (eqb (side d) v), zero_total side v ds n) where
    zero_cond : (b : Bool) → cond b (pos 0) (pos 0) ≡ pos 0
    zero_cond true = refl
    zero_cond false = refl

  nothing_out : (v : ℕ) → given_out v es xs ≡ pos 0
  nothing_out v = ap (given_out v es) is ∙ zero_total (λ e. e.from) v es (length es)

  nothing_in : (v : ℕ) → taken_in v es xs ≡ pos 0
  nothing_in v = ap (taken_in v es) is ∙ zero_total (λ e. e.to) v es (length es)

up_less : (a b : ℤ) → pos 0 ≤ℤ b → b <ℤ a → up b < up a
up_less (pos m) (pos n) h k = omega (arith, ints)
up_less (pos m) (negsuc n) h k = absurd (omega (arith, ints))
up_less (negsuc m) (pos n) h k = absurd (omega (arith, ints))
up_less (negsuc m) (negsuc n) h k = absurd (omega (arith, ints))

-- the value rises towards the capacity of the source alone
pub rising : (es : List Edge) (source sink : ℕ) (xs xs' : List ℤ) (value width value' : ℤ) → source ≢ sink → IsFlow es source sink xs' → value ≡ value_of es source xs → value_of es source xs' ≡ value_of es source xs +ℤ width → pos 0 <ℤ width → value' ≡ value +ℤ width → up (capacity (only source) es -ℤ value') < up (capacity (only source) es -ℤ value)
rising es source sink xs xs' value width value' apart flow valued more wide is =
    let bound : value_of es source xs' ≤ℤ capacity (only source) es = value-le-capacity es source sink xs' (only source) flow (only_cut source sink apart) in
    up_less (capacity (only source) es -ℤ value) (capacity (only source) es -ℤ value') (omega (arith, ints)) (omega (arith, ints))
