-- A breadth-first search, step by step.
use Rattle.std.proofs.Common.{◌≡◌, ◌≢◌, ℕ, zero, suc, ◌<◌, ◌≤◌, ◌+◌, ◌⊎◌, refl, ap, sym, ◌∙◌, subst, arith, List, [], ◌∷◌, ◌++◌, length, Bool, true, false, cond, eqb, inl, inr, get_or, set, Option, Some, None, is_some, is_none, below_more, replicate, ◌*◌, map}
use Rattle.std.specs.List.{count_by, All, Contains}
use Rattle.std.proofs.lemmas.Int.{ints}
use Rattle.std.proofs.lemmas.List.Sums.{sum_by-set}
use Rattle.std.proofs.lemmas.List.Folds.{sum_by-replicate}
use Rattle.std.proofs.lemmas.Bool.{cases_eq, cases_lt, true≢false, false≢true, eq-eqb, ne_eqb}
use Rattle.std.proofs.lemmas.List.{get_or-set_same, get_or-set_other, length-set, get_or_append_left, get_or_push, get_or_read, length_push, get_or-replicate, get_or_past, length-replicate, length-map}
use Rattle.std.proofs.lemmas.List.Elements.{All-contains, Contains-get_or}
use Rattle.std.specs.Prelude.{ℤ, pos, ◌-ℤ◌, ◌<ℤ◌, unwrap_or}
use Rattle.ofit_flow.specs.declared.edge.Edge.{Edge}
use Rattle.ofit_flow.specs.Flow.{edge_at, amount_at}
use Rattle.ofit_flow.specs.Residual.{other_end, residual, Touches, IsClosedAt, IsClosed}
use Rattle.ofit_flow.specs.Incidence.{IsIncidence}
use Rattle.ofit_flow.specs.Levels.{level_at, has_level, IsLevelled, IsArc, IsReached, IsLevelling, LeadsClose, IsSearched}
use Rattle.ofit_flow.specs.Search.{IsSearch, IsQueuedFrom, Extends, IsLedOn, IsVisited, height, AreAtMost}
use Rattle.ofit_flow.specs.Walk.{node_on}
use Rattle.ofit_flow.specs.declared.step.Step.{Step}

some_of : {A : Type 0} (o : Option A) → is_some o ≡ true → (x : A) × (o ≡ Some x)
some_of None h = absurd (false≢true h)
some_of (Some x) h = (x, refl)

pub same_some : {A : Type 0} (x y : A) → Some x ≡ Some y → x ≡ y
same_some x y h = cc

pub none_some : {A : Type 0} (o : Option A) (x : A) → o ≡ None → o ≡ Some x → ⊥
none_some o x h k = cc

pub none_of : {A : Type 0} (o : Option A) → is_some o ≡ false → o ≡ None
none_of None h = refl
none_of (Some x) h = absurd (true≢false h)

-- what reading a node's level gives
pub level_read : (levels : List (Option ℕ)) (v : ℕ) (o : Option ℕ) → v < length levels → o ≡ get_or levels v o → level_at levels v ≡ o
level_read levels v o b h = sym (get_or_read levels v o b h None)

pub levelled_from : (levels : List (Option ℕ)) (v l : ℕ) → level_at levels v ≡ Some l → IsLevelled levels v
levelled_from levels v l h = ap is_some h

pub level_of : (levels : List (Option ℕ)) (v : ℕ) → IsLevelled levels v → (l : ℕ) × (level_at levels v ≡ Some l)
level_of levels v h = some_of (level_at levels v) h

pub height_is : (levels : List (Option ℕ)) (v l : ℕ) → level_at levels v ≡ Some l → height levels v ≡ l
height_is levels v l h = ap (λ (o : Option ℕ). unwrap_or o 0) h

pub at_height : (levels : List (Option ℕ)) (v : ℕ) → IsLevelled levels v → level_at levels v ≡ Some (height levels v)
at_height levels v h = let l = level_of levels v h in l.1 ∙ ap Some (sym (height_is levels v l.0 l.1))

pub levelled_within : (levels : List (Option ℕ)) (v : ℕ) → IsLevelled levels v → v < length levels
levelled_within [] v h = absurd (false≢true h)
levelled_within (o ∷ levels) zero h = omega arith
levelled_within (o ∷ levels) (suc v) h = omega (arith, levelled_within levels v h)

-- a place that gets its level is no longer among those without
count-set : (levels : List (Option ℕ)) (w l : ℕ) → w < length levels → level_at levels w ≡ None → count_by is_none (set levels w (Some l)) + 1 ≡ count_by is_none levels
count-set levels w l b h =
    omega (arith, sum_by-set (λ (o : Option ℕ). cond (is_none o) 1 0) levels w (Some l) None b, ap {B = ℕ} (λ (o : Option ℕ). cond (is_none o) 1 0) h)

pub Extends-refl : (levels : List (Option ℕ)) (queue : List ℕ) → Extends levels queue levels queue
Extends-refl levels queue = record {
  counted = refl;
  kept = λ v l h. h;
  longer = omega arith;
  same = λ j h. refl;
  fresh = λ v h. inl h;
}

pub Extends-levelled : (levels : List (Option ℕ)) (queue : List ℕ) (levels' : List (Option ℕ)) (queue' : List ℕ) → Extends levels queue levels' queue' → (v : ℕ) → IsLevelled levels v → IsLevelled levels' v
Extends-levelled levels queue levels' queue' x v h =
    let l = level_of levels v h in
    levelled_from levels' v l.0 (x.kept v l.0 l.1)

pub Extends-height : (levels : List (Option ℕ)) (queue : List ℕ) (levels' : List (Option ℕ)) (queue' : List ℕ) → Extends levels queue levels' queue' → (v : ℕ) → IsLevelled levels v → height levels' v ≡ height levels v
Extends-height levels queue levels' queue' x v h =
    let l = level_of levels v h in
    height_is levels' v l.0 (x.kept v l.0 l.1) ∙ sym (height_is levels v l.0 l.1)

IsQueuedFrom-longer : (queue queue' : List ℕ) (low low' v : ℕ) → low' ≤ low → length queue ≤ length queue' → ((j : ℕ) → j < length queue → get_or queue' j 0 ≡ get_or queue j 0) → IsQueuedFrom queue low v → IsQueuedFrom queue' low' v
IsQueuedFrom-longer queue queue' low low' v d longer same q = record {
  place = q.place;
  from_low = omega (arith, q.from_low);
  within = omega (arith, q.within);
  here = same q.place q.within ∙ q.here;
}

pub Extends-trans : (a : List (Option ℕ)) (p : List ℕ) (b : List (Option ℕ)) (q : List ℕ) (c : List (Option ℕ)) (r : List ℕ) → Extends a p b q → Extends b q c r → Extends a p c r
Extends-trans a p b q c r x y = record {
  counted = y.counted ∙ x.counted;
  kept = λ v l h. y.kept v l (x.kept v l h);
  longer = omega (arith, x.longer, y.longer);
  same = λ j h. y.same j (omega (arith, x.longer)) ∙ x.same j h;
  fresh = λ v h. elim (y.fresh v h) [
    | inl old ↦ elim (x.fresh v old) [
      | inl older ↦ inl older
      | inr new ↦ inr (IsQueuedFrom-longer q r (length p) (length p) v (omega arith) y.longer y.same new)
    ]
    | inr new ↦ inr (IsQueuedFrom-longer r r (length q) (length p) v x.longer (omega arith) (λ j l. refl) new)
  ];
}

-- what follows where an edge leads from a node in a closed set
closed_leads : (e : Edge) (x : ℤ) (u : ℕ) (set : ℕ → Bool) → IsClosedAt set e x → Touches e u → pos 0 <ℤ residual e x u → set u ≡ true → set (other_end e u) ≡ true
closed_leads e x u set c t room h = elim (cases_eq e.from u) [
  | inl is ↦
      let yes : eqb e.from u ≡ true = eq-eqb e.from u is in
      let forward : x <ℤ e.cap = omega (arith, ints, subst (λ (b : Bool). pos 0 <ℤ cond b (e.cap -ℤ x) x) yes room) in
      ap (λ (b : Bool). set (cond b e.to e.from)) yes ∙ c.forwards (ap set is ∙ h) forward
  | inr isnt ↦
      let no : eqb e.from u ≡ false = ne_eqb e.from u isnt in
      let backward : pos 0 <ℤ x = subst (λ (b : Bool). pos 0 <ℤ cond b (e.cap -ℤ x) x) no room in
      elim t [
        | inl is ↦ absurd (isnt is)
        | inr is ↦ ap (λ (b : Bool). set (cond b e.to e.from)) no ∙ c.backwards (ap set is ∙ h) backward
      ]
]

-- levels stand on no node but those of each set that has the start and that no arc leaves
reached_up_to : (es : List Edge) (xs : List ℤ) (start : ℕ) (levels : List (Option ℕ)) → IsLevelling es xs start levels → (among : ℕ → Bool) → among start ≡ true → IsClosed es xs among → (fuel v l : ℕ) → l ≤ fuel → level_at levels v ≡ Some l → among v ≡ true
reached_up_to es xs start levels h among has closed zero v l le at = elim (cases_eq v start) [
  | inl is ↦ ap among is ∙ has
  | inr isnt ↦ absurd (omega (arith, (h.reached v l at isnt).above))
]
reached_up_to es xs start levels h among has closed (suc fuel) v l le at = elim (cases_eq v start) [
  | inl is ↦ ap among is ∙ has
  | inr isnt ↦
      let r : IsReached es xs levels v l = h.reached v l at isnt in
      ap among (sym r.arc.arrives)
      ∙ closed_leads (edge_at es r.number) (amount_at xs r.number) r.from among (closed r.number r.arc.numbered) r.arc.leaves r.arc.room
      (reached_up_to es xs start levels h among has closed fuel r.from r.lower (omega (arith, r.above)) r.below)
]

pub levels_reached : (es : List Edge) (xs : List ℤ) (start : ℕ) (levels : List (Option ℕ)) → IsLevelling es xs start levels → (among : ℕ → Bool) → among start ≡ true → IsClosed es xs among → (v : ℕ) → IsLevelled levels v → among v ≡ true
levels_reached es xs start levels h among has closed v at =
    let l = level_of levels v at in
    reached_up_to es xs start levels h among has closed l.0 v l.0 (omega arith) l.1

-- the node w, which had no level, gets one over the edge k from the node u, a level below
module _ (es : List Edge) (xs : List ℤ) (start : ℕ) (levels : List (Option ℕ)) (queue : List ℕ) (u w k above : ℕ) (search : IsSearch es xs start levels queue) (w_in : w < length levels) (new : level_at levels w ≡ None) (found : IsLevelled levels u) (above_is : above ≡ height levels u + 1) (top : AreAtMost levels above) (arc : IsArc es xs u k w) where
  abbrev after : List (Option ℕ)
  after = set levels w (Some above)

  here : level_at after w ≡ Some above
  here = get_or-set_same levels w (Some above) None w_in

  elsewhere : (v : ℕ) → v ≢ w → level_at after v ≡ level_at levels v
  elsewhere v d = get_or-set_other levels w v (Some above) None d

  kept_level : (v l : ℕ) → level_at levels v ≡ Some l → level_at after v ≡ Some l
  kept_level v l h = elsewhere v (λ e. none_some (level_at levels w) l new (sym (ap (level_at levels) e) ∙ h)) ∙ h

  kept_levelled : (v : ℕ) → IsLevelled levels v → IsLevelled after v
  kept_levelled v h = let l = level_of levels v h in levelled_from after v l.0 (kept_level v l.0 l.1)

  kept_height : (v : ℕ) → IsLevelled levels v → height after v ≡ height levels v
  kept_height v h = let l = level_of levels v h in height_is after v l.0 (kept_level v l.0 l.1) ∙ sym (height_is levels v l.0 l.1)

  -- each level is an old one or the new one
  by_level : (v l : ℕ) → level_at after v ≡ Some l → ((w ≡ v) × (above ≡ l)) ⊎ (level_at levels v ≡ Some l)
  by_level v l h = elim (cases_eq v w) [
    | inl is ↦ inl (sym is, same_some above l (sym here ∙ ap (level_at after) (sym is) ∙ h))
    | inr isnt ↦ inr (sym (elsewhere v isnt) ∙ h)
  ]

  by_height : (v : ℕ) → ((w ≡ v) × (height after v ≡ above)) ⊎ (height after v ≡ height levels v)
  by_height v = elim (cases_eq v w) [
    | inl is ↦ inl (sym is, height_is after v above (ap (level_at after) is ∙ here))
    | inr isnt ↦ inr (ap (λ (o : Option ℕ). unwrap_or o 0) (elsewhere v isnt))
  ]

  new_levelling : IsLevelling es xs start after
  new_levelling = record {
    started = kept_level start 0 search.levelling.started;
    reached = λ v l h d. elim (by_level v l h) [
      | inl n ↦ record {
        from = u;
        number = k;
        lower = height levels u;
        below = kept_level u (height levels u) (at_height levels u found);
        arc = subst (λ (z : ℕ). IsArc es xs u k z) n.0 arc;
        above = sym n.1 ∙ above_is;
      }
      | inr o ↦
          let r = search.levelling.reached v l o d in
          record { from = r.from; number = r.number; lower = r.lower; below = kept_level r.from r.lower r.below; arc = r.arc; above = r.above }
    ];
  }

  at_end : get_or (queue ++ w ∷ []) (length queue) 0 ≡ w
  at_end = get_or_push queue w 0 (length queue) refl

  before_end : (j : ℕ) → j < length queue → get_or (queue ++ w ∷ []) j 0 ≡ get_or queue j 0
  before_end j b = get_or_append_left queue (w ∷ []) 0 j b

  pub top_more : AreAtMost after above
  top_more v = elim (by_height v) [
    | inl n ↦ omega (arith, n.1)
    | inr o ↦ omega (arith, o, top v)
  ]

  place_height : (j : ℕ) → j < length queue → height after (get_or (queue ++ w ∷ []) j 0) ≡ height levels (get_or queue j 0)
  place_height j b = ap (height after) (before_end j b) ∙ kept_height (get_or queue j 0) (search.queued j b)

  end_height : height after (get_or (queue ++ w ∷ []) (length queue) 0) ≡ above
  end_height = ap (height after) at_end ∙ height_is after w above here

  rises : (i j : ℕ) → i ≤ j → j < length queue + 1 → height after (get_or (queue ++ w ∷ []) i 0) ≤ height after (get_or (queue ++ w ∷ []) j 0)
  rises i j le b = elim (cases_lt j (length queue)) [
    | inl low ↦ omega (arith, place_height i (omega arith), place_height j low, search.rising i j le low)
    | inr high ↦
        let is : j ≡ length queue = omega arith in
        omega (arith, top_more (get_or (queue ++ w ∷ []) i 0), end_height, ap (λ (n : ℕ). height after (get_or (queue ++ w ∷ []) n 0)) is)
  ]

  search_more : IsSearch es xs start after (queue ++ w ∷ [])
  search_more = record {
    placed = omega (arith, search.placed, count-set levels w above w_in new, length_push queue w, length-set levels w (Some above));
    levelling = new_levelling;
    low = λ v. elim (by_height v) [
      | inl n ↦ omega (arith, n.1, length_push queue w, above_is, search.low u)
      | inr o ↦ omega (arith, o, length_push queue w, search.low v)
    ];
    queued = λ j b. elim (cases_eq j (length queue)) [
      | inl is ↦ subst (λ (v : ℕ). IsLevelled after v) (sym at_end ∙ ap (λ (i : ℕ). get_or (queue ++ w ∷ []) i 0) (sym is)) (levelled_from after w above here)
      | inr isnt ↦
          let below : j < length queue = omega (arith, length_push queue w) in
          rw (get_or_append_left queue (w ∷ []) 0 j below) (kept_levelled (get_or queue j 0) (search.queued j below))
    ];
    rising = λ i j le b. rises i j le (omega (arith, length_push queue w));
  }

  extends_more : Extends levels queue after (queue ++ w ∷ [])
  extends_more = record {
    counted = length-set levels w (Some above);
    kept = kept_level;
    longer = omega (arith, length_push queue w);
    same = before_end;
    fresh = λ v h.
        let l = level_of after v h in
        elim (by_level v l.0 l.1) [
          | inl n ↦ inr (record { place = length queue; from_low = omega arith; within = omega (arith, length_push queue w); here = at_end ∙ n.0 })
          | inr o ↦ inl (levelled_from levels v l.0 o)
        ];
  }

  pub search_step : IsSearch es xs start after (queue ++ w ∷ []) × Extends levels queue after (queue ++ w ∷ []) × IsLevelled after w
  search_step = (search_more, extends_more, levelled_from after w above here)

-- so many of a node's edges have been followed since the levels were `levels` and the queue was `queue`
pub record IsPartWay (es : List Edge) (xs : List ℤ) (row : List ℕ) (node start : ℕ) (levels : List (Option ℕ)) (queue : List ℕ) (count start' : ℕ) (levels' : List (Option ℕ)) (queue' : List ℕ) : Type 0 where
  pub start_same : start' ≡ start
  pub search : IsSearch es xs start' levels' queue'
  pub extends : Extends levels queue levels' queue'
  pub top : AreAtMost levels' (height levels node + 1)
  pub led_on : (i : ℕ) → i < count → IsLedOn (edge_at es (get_or row i 0)) (amount_at xs (get_or row i 0)) node levels'

pub part_way_more : (es : List Edge) (xs : List ℤ) (row : List ℕ) (node start : ℕ) (levels : List (Option ℕ)) (queue : List ℕ) (count start' : ℕ) (levels' : List (Option ℕ)) (queue' : List ℕ) (start'' : ℕ) (levels'' : List (Option ℕ)) (queue'' : List ℕ) → IsPartWay es xs row node start levels queue count start' levels' queue' → start'' ≡ start' → IsSearch es xs start'' levels'' queue'' → Extends levels' queue' levels'' queue'' → AreAtMost levels'' (height levels node + 1) → IsLedOn (edge_at es (get_or row count 0)) (amount_at xs (get_or row count 0)) node levels'' → IsPartWay es xs row node start levels queue (count + 1) start'' levels'' queue''
part_way_more es xs row node start levels queue count start' levels' queue' start'' levels'' queue'' p same search x top led = record {
  start_same = same ∙ p.start_same;
  search = search;
  extends = Extends-trans levels queue levels' queue' levels'' queue'' p.extends x;
  top = top;
  led_on = below_more (λ (i : ℕ). IsLedOn (edge_at es (get_or row i 0)) (amount_at xs (get_or row i 0)) node levels'') count
      (λ i b room. Extends-levelled levels' queue' levels'' queue'' x (other_end (edge_at es (get_or row i 0)) node) (p.led_on i b room)) led;
}

no_level : (n v : ℕ) → level_at (replicate {A = Option ℕ} n None) v ≡ None
no_level n v = elim (cases_lt v n) [
  | inl b ↦ get_or-replicate n v None None b
  | inr b ↦ get_or_past (replicate n None) v None (omega (arith, length-replicate {A = Option ℕ} n None))
]

-- a search that has reached its start alone
module _ (es : List Edge) (xs : List ℤ) (n start : ℕ) (b : start < n) where
  abbrev alone : List (Option ℕ)
  alone = set (replicate n None) start (Some 0)

  first_within : start < length (replicate {A = Option ℕ} n None)
  first_within = omega (arith, length-replicate {A = Option ℕ} n None)

  first_here : level_at alone start ≡ Some 0
  first_here = get_or-set_same (replicate n None) start (Some 0) None first_within

  first_other : (v : ℕ) → v ≢ start → level_at alone v ≡ None
  first_other v isnt = get_or-set_other (replicate n None) start v (Some 0) None isnt ∙ no_level n v

  first_only : (v l : ℕ) → level_at alone v ≡ Some l → start ≡ v
  first_only v l h = elim (cases_eq v start) [
    | inl is ↦ sym is
    | inr isnt ↦ absurd (none_some (level_at alone v) l (first_other v isnt) h)
  ]

  pub low_first : AreAtMost alone 0
  low_first v = elim (cases_eq v start) [
    | inl is ↦ omega (arith, height_is alone v 0 (ap (level_at alone) is ∙ first_here))
    | inr isnt ↦ omega (arith, ap (λ (o : Option ℕ). unwrap_or o 0) (first_other v isnt))
  ]

  pub search_first : IsSearch es xs start alone (start ∷ [])
  search_first =
      let all : count_by is_none (replicate {A = Option ℕ} n None) ≡ n * 1 = sum_by-replicate (λ (o : Option ℕ). cond (is_none o) 1 0) n None in
      let same : length alone ≡ length (replicate {A = Option ℕ} n None) = length-set {A = Option ℕ} (replicate n None) start (Some 0) in
      record {
        placed = omega (arith, count-set (replicate n None) start 0 first_within (no_level n start), all, length-replicate {A = Option ℕ} n None, same);
        levelling = record {
          started = first_here;
          reached = λ v l h d. absurd (d (sym (first_only v l h)));
        };
        low = λ v. omega (arith, low_first v);
        queued = λ j h.
            let first : 0 ≡ j = omega arith in
            subst (λ (i : ℕ). IsLevelled alone (get_or (start ∷ []) i 0)) first (levelled_from alone start 0 first_here);
        rising = λ i j le h. omega (arith, low_first (get_or (start ∷ []) i 0));
      }

  pub queued_first : (v : ℕ) → IsLevelled alone v → IsQueuedFrom (start ∷ []) 0 v
  queued_first v h =
      let l = level_of alone v h in
      record { place = 0; from_low = omega arith; within = omega arith; here = first_only v l.0 l.1 }

-- each arc from a visited node leads to one with a level, at most one level up
abbrev pub IsFollowed : List Edge → List ℤ → List (Option ℕ) → ℕ → Type 0
IsFollowed es xs levels v = LeadsClose es xs levels v (height levels v)

followed_from : (es : List Edge) (xs : List ℤ) (levels : List (Option ℕ)) (v : ℕ) → AreAtMost levels (height levels v + 1) → IsVisited es xs levels v → IsFollowed es xs levels v
followed_from es xs levels v top visited k to arc =
    let found : IsLevelled levels to = subst (IsLevelled levels) arc.arrives (visited k arc.numbered arc.leaves arc.room) in
    record { level = height levels to; found = at_height levels to found; at_most = top to }

IsFollowed-kept : (es : List Edge) (xs : List ℤ) (levels : List (Option ℕ)) (queue : List ℕ) (levels' : List (Option ℕ)) (queue' : List ℕ) → Extends levels queue levels' queue' → (v : ℕ) → IsLevelled levels v → IsFollowed es xs levels v → IsFollowed es xs levels' v
IsFollowed-kept es xs levels queue levels' queue' x v at h k to arc =
    let r = h k to arc in
    record { level = r.level; found = x.kept to r.level r.found; at_most = omega (arith, r.at_most, Extends-height levels queue levels' queue' x v at) }

-- every node with a level has been followed, or waits in the queue
abbrev pub IsPending : List Edge → List ℤ → List (Option ℕ) → List ℕ → ℕ → Type 0
IsPending es xs levels queue next = (v : ℕ) → IsLevelled levels v → IsFollowed es xs levels v ⊎ IsQueuedFrom queue next v

-- a search that has visited the first `next` nodes of its queue
pub record IsUnderWay (es : List Edge) (xs : List ℤ) (nodes start start' : ℕ) (levels : List (Option ℕ)) (queue : List ℕ) (next : ℕ) : Type 0 where
  pub start_same : start' ≡ start
  pub counted : length levels ≡ nodes
  pub search : IsSearch es xs start' levels queue
  pub next_in : next ≤ length queue
  pub top : next < length queue → AreAtMost levels (height levels (get_or queue next 0) + 1)
  pub pending : IsPending es xs levels queue next

pub under_way_first : (es : List Edge) (xs : List ℤ) (nodes start start' : ℕ) (levels : List (Option ℕ)) (queue : List ℕ) → start' ≡ start → length levels ≡ nodes → IsSearch es xs start' levels queue → ((v : ℕ) → IsLevelled levels v → IsQueuedFrom queue 0 v) → AreAtMost levels 0 → IsUnderWay es xs nodes start start' levels queue 0
under_way_first es xs nodes start start' levels queue same counted search waiting low = record {
  start_same = same;
  counted = counted;
  search = search;
  next_in = omega arith;
  top = λ b v. omega (arith, low v);
  pending = λ v h. inr (waiting v h);
}

-- what reading the next place of the queue gives
pub next_read : {es : List Edge} {xs : List ℤ} {nodes start start' : ℕ} {levels : List (Option ℕ)} {queue : List ℕ} {next node : ℕ} → IsUnderWay es xs nodes start start' levels queue next → next < length queue → node ≡ get_or queue next node → (node ≡ get_or queue next 0) × (node < nodes) × IsLevelled levels node × AreAtMost levels (height levels node + 1)
next_read {levels = levels} {queue} {next} {node} u b h =
    let is : node ≡ get_or queue next 0 = get_or_read queue next node b h 0 in
    let at : IsLevelled levels node = subst (IsLevelled levels) (sym is) (u.search.queued next b) in
    (is, omega (arith, u.counted, levelled_within levels node at), at, subst (λ (v : ℕ). AreAtMost levels (height levels v + 1)) (sym is) (u.top b))

pub under_way_more : {es : List Edge} {xs : List ℤ} {nodes start start' : ℕ} {levels : List (Option ℕ)} {queue : List ℕ} {next node start'' : ℕ} {levels' : List (Option ℕ)} {queue' : List ℕ} → IsUnderWay es xs nodes start start' levels queue next → next < length queue → node ≡ get_or queue next 0 → start'' ≡ start' → IsSearch es xs start'' levels' queue' → Extends levels queue levels' queue' → AreAtMost levels' (height levels node + 1) → IsVisited es xs levels' node → IsUnderWay es xs nodes start start'' levels' queue' (next + 1)
under_way_more {es} {xs} {nodes} {start} {start'} {levels} {queue} {next} {node} {start''} {levels'} {queue'} u b is same search x top done =
    let at : IsLevelled levels node = subst (IsLevelled levels) (sym is) (u.search.queued next b) in
    let level : height levels' node ≡ height levels node = Extends-height levels queue levels' queue' x node at in
    let top' : AreAtMost levels' (height levels' node + 1) = λ v. omega (arith, top v, level) in
    let place : get_or queue' next 0 ≡ node = x.same next b ∙ sym is in
    record {
      start_same = same ∙ u.start_same;
      counted = x.counted ∙ u.counted;
      search = search;
      next_in = omega (arith, x.longer);
      top = λ more v. omega (arith, top' v, search.rising next (next + 1) (omega arith) more, ap (height levels') place);
      pending = λ v h. elim (x.fresh v h) [
        | inr new ↦ inr (IsQueuedFrom-longer queue' queue' (length queue) (next + 1) v (omega arith) (omega arith) (λ j l. refl) new)
        | inl old ↦ elim (u.pending v old) [
          | inl followed ↦ inl (IsFollowed-kept es xs levels queue levels' queue' x v old followed)
          | inr waits ↦ elim (cases_eq next waits.place) [
            | inl here ↦ inl (subst (IsFollowed es xs levels') (is ∙ ap (λ (i : ℕ). get_or queue i 0) here ∙ waits.here) (followed_from es xs levels' node top' done))
            | inr isnt ↦ inr (IsQueuedFrom-longer queue queue' (next + 1) (next + 1) v (omega arith) x.longer x.same (record { place = waits.place; from_low = omega (arith, waits.from_low); within = waits.within; here = waits.here }))
          ]
        ]
      ];
    }

-- where each arc from a node with a level leads to one with a level, no residual arc leaves them
closed_from_followed : (es : List Edge) (xs : List ℤ) (levels : List (Option ℕ)) → ((v k to : ℕ) → IsLevelled levels v → IsArc es xs v k to → IsLevelled levels to) → IsClosed es xs (has_level levels)
closed_from_followed es xs levels leads k b =
    let e = edge_at es k in
    let x = amount_at xs k in
    record {
      forwards = λ h m.
          let yes : eqb e.from e.from ≡ true = eq-eqb e.from e.from refl in
          leads e.from k e.to h (record {
            numbered = b;
            leaves = inl refl;
            arrives = ap (λ (t : Bool). cond t e.to e.from) yes;
            room = subst (λ (t : Bool). pos 0 <ℤ cond t (e.cap -ℤ x) x) (sym yes) (omega (arith, ints, m));
          });
      backwards = λ h m. elim (cases_eq e.from e.to) [
        | inl is ↦ ap (has_level levels) is ∙ h
        | inr isnt ↦
            let no : eqb e.from e.to ≡ false = ne_eqb e.from e.to isnt in
            leads e.to k e.from h (record {
              numbered = b;
              leaves = inr refl;
              arrives = ap (λ (t : Bool). cond t e.to e.from) no;
              room = subst (λ (t : Bool). pos 0 <ℤ cond t (e.cap -ℤ x) x) (sym no) m;
            })
      ];
    }

-- a search that has come to its end, since no node waits or since the goal has a level
pub searched_from : {es : List Edge} {xs : List ℤ} {nodes start start' : ℕ} {levels : List (Option ℕ)} {queue : List ℕ} {next : ℕ} (goal : ℕ) → IsUnderWay es xs nodes start start' levels queue next → (level_at levels goal ≡ None → length queue ≤ next) → IsSearched es xs start goal levels
searched_from {es} {xs} {nodes} {start} {start'} {levels} {queue} {next} goal u ended = record {
  levelling = subst (λ (s : ℕ). IsLevelling es xs s levels) u.start_same u.search.levelling;
  low = λ v l h. omega (arith, height_is levels v l h, u.search.low v, u.search.placed);
  steady = λ v l last h g far. elim (u.pending v (levelled_from levels v l h)) [
    | inl followed ↦ subst (LeadsClose es xs levels v) (height_is levels v l h) followed
    | inr waits ↦
        let here : height levels (get_or queue waits.place 0) ≡ l = ap (height levels) waits.here ∙ height_is levels v l h in
        absurd (omega (arith, here, far, height_is levels goal last g, u.top (omega (arith, waits.from_low, waits.within)) goal, u.search.rising next waits.place waits.from_low waits.within))
  ];
  closed = λ none. closed_from_followed es xs levels (λ v k to at arc. elim (u.pending v at) [
    | inl followed ↦ let r = followed k to arc in levelled_from levels to r.level r.found
    | inr waits ↦ absurd (omega (arith, ended none, waits.from_low, waits.within))
  ]);
}

-- a row has every edge of its node
pub listed : (es : List Edge) (nodes v : ℕ) (row : ℕ → List ℕ) → IsIncidence es nodes row → (k : ℕ) → k < length es → Touches (edge_at es k) v → Contains (row v) k
listed es nodes v row inc k b touches = elim touches [
  | inl is ↦ subst (λ (n : ℕ). Contains (row n) k) is (inc.from_listed k b)
  | inr is ↦ subst (λ (n : ℕ). Contains (row n) k) is (inc.to_listed k b)
]

pub visited_by_row : (es : List Edge) (xs : List ℤ) (levels : List (Option ℕ)) (nodes v : ℕ) (row : ℕ → List ℕ) → IsIncidence es nodes row → All (λ k. IsLedOn (edge_at es k) (amount_at xs k) v levels) (row v) → IsVisited es xs levels v
visited_by_row es xs levels nodes v row inc led k b touches =
    All-contains (λ (i : ℕ). IsLedOn (edge_at es i) (amount_at xs i) v levels) (row v) k led (listed es nodes v row inc k b touches)

pub row_below : (es : List Edge) (nodes v : ℕ) (row : ℕ → List ℕ) → v < nodes → IsIncidence es nodes row → All (λ k. k < length es) (row v)
row_below es nodes v row v_in inc k d b = inc.below v (get_or (row v) k d) v_in (Contains-get_or (row v) k d b)

pub row_touches : (es : List Edge) (nodes v : ℕ) (row : ℕ → List ℕ) → v < nodes → IsIncidence es nodes row → All (λ k. Touches (edge_at es k) v) (row v)
row_touches es nodes v row v_in inc k d b = inc.touching v (get_or (row v) k d) v_in (Contains-get_or (row v) k d b)

-- past the last step stands the node where the path ends
pub node_past : (path : List Step) (node : ℕ) → node_on path node (length path) ≡ node
node_past path node = get_or_past (map (λ (s : Step). s.from) path) (length path) node (omega (arith, length-map path (λ (s : Step). s.from)))
