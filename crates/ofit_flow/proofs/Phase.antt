-- What a blocking flow keeps true, and why the sink's level rises with each.
use Rattle.std.proofs.Common.{◌≡◌, ◌≢◌, ℕ, zero, suc, ◌<◌, ◌≤◌, ◌+◌, refl, ap, sym, ◌∙◌, subst, arith, List, length, inl, inr, get_or, set, Option, Some, None, is_some, cond}
use Rattle.std.specs.List.{count_by, All, Contains}
use Rattle.std.proofs.lemmas.Int.{ints}
use Rattle.std.proofs.lemmas.Bool.{cases_eq, cases_lt}
use Rattle.std.proofs.lemmas.List.{get_or-set_same, get_or-set_other, get_or_default}
use Rattle.std.proofs.lemmas.List.Elements.{All-contains, Contains-get_or}
use Rattle.std.proofs.lemmas.List.Sums.{sum_by-set}
use Rattle.std.specs.Prelude.{ℤ}
use Rattle.ofit_flow.specs.declared.edge.Edge.{Edge}
use Rattle.ofit_flow.specs.Flow.{edge_at}
use Rattle.ofit_flow.specs.Residual.{other_end, Touches}
use Rattle.ofit_flow.specs.Incidence.{IsIncidence}
use Rattle.ofit_flow.specs.Levels.{level_at, IsReached, IsLevelling, HasLevelUpTo, LeadsClose, IsSteady}
use Rattle.ofit_flow.specs.Walk.{IsSpent, IsPhase, FallsOnly, LeadsDown, AreKept}
use Rattle.ofit_flow.proofs.Searching.{same_some, none_some, listed}

-- a phase at its begin
pub phase_first : (es : List Edge) (nodes : ℕ) (row : ℕ → List ℕ) (xs : List ℤ) (levels : List (Option ℕ)) (spent : List ℕ) (last sink : ℕ) → ((v : ℕ) → v < nodes → get_or spent v 0 ≡ 0) → IsSteady es xs levels sink → level_at levels sink ≡ Some last → IsPhase es nodes row xs levels levels spent last
phase_first es nodes row xs levels spent last sink none steady goal = record {
  left = λ v. inl refl;
  passed = λ v l i v_in h b. absurd (omega (arith, none v v_in));
  dead = λ v l h n. absurd (none_some (level_at levels v) l n h);
  close = λ v l h far. steady v l last h goal far;
}

down_not_up : (levels : List (Option ℕ)) (v to l : ℕ) → LeadsDown levels v to → level_at levels v ≡ Some l → level_at levels to ≡ Some (l + 1) → ⊥
down_not_up levels v to l d at is = omega (arith, same_some (d.level + 1) l (sym d.here ∙ at), same_some d.level (l + 1) (sym d.there ∙ is))

-- where only what leads a level down can carry more, what is spent stays so
module _ (es : List Edge) (nodes : ℕ) (row : ℕ → List ℕ) (xs xs' : List ℤ) (first levels : List (Option ℕ)) (spent : List ℕ) (last : ℕ) (inc : IsIncidence es nodes row) (kept : AreKept nodes row spent) (h : IsPhase es nodes row xs first levels spent last) (falls : FallsOnly es levels xs xs') where
  sent_passed : (v l k : ℕ) → k < length es → Touches (edge_at es k) v → level_at levels v ≡ Some l → IsSpent es xs levels v (l + 1) k → IsSpent es xs' levels v (l + 1) k
  sent_passed v l k b t at old room is = elim (falls k v b t) [
    | inl less ↦ old (omega (arith, ints, less, room)) is
    | inr down ↦ down_not_up levels v (other_end (edge_at es k) v) l down at is
  ]

  sent_dead : (v l k : ℕ) → k < length es → Touches (edge_at es k) v → level_at levels v ≡ None → IsSpent es xs levels v (l + 1) k → IsSpent es xs' levels v (l + 1) k
  sent_dead v l k b t gone old room is = elim (falls k v b t) [
    | inl less ↦ old (omega (arith, ints, less, room)) is
    | inr down ↦ none_some (level_at levels v) (down.level + 1) gone down.here
  ]

  first_at : (v l : ℕ) → level_at levels v ≡ Some l → level_at first v ≡ Some l
  first_at v l at = elim (h.left v) [
    | inl same ↦ sym same ∙ at
    | inr gone ↦ absurd (none_some (level_at levels v) l gone at)
  ]

  sent_close : (v l : ℕ) → level_at first v ≡ Some l → l + 1 < last → LeadsClose es xs' first v l
  sent_close v l at far k to arc = elim (falls k v arc.numbered arc.leaves) [
    | inl less ↦ h.close v l at far k to (record { numbered = arc.numbered; leaves = arc.leaves; arrives = arc.arrives; room = omega (arith, ints, less, arc.room) })
    | inr down ↦ record {
      level = down.level;
      found = first_at to down.level (ap (level_at levels) (sym arc.arrives) ∙ down.there);
      at_most = omega (arith, same_some (down.level + 1) l (sym (first_at v (down.level + 1) down.here) ∙ at));
    }
  ]

  pub phase_sent : IsPhase es nodes row xs' first levels spent last
  phase_sent = record {
    left = h.left;
    passed = λ v l i v_in at b.
        let has : Contains (row v) (get_or (row v) i 0) = Contains-get_or (row v) i 0 (omega (arith, kept.within v v_in)) in
        sent_passed v l (get_or (row v) i 0) (inc.below v (get_or (row v) i 0) v_in has) (inc.touching v (get_or (row v) i 0) v_in has) at (h.passed v l i v_in at b);
    dead = λ v l at gone k b t. sent_dead v l k b t gone (h.dead v l at gone k b t);
    close = sent_close;
  }

-- more of a node's edges are passed over
pub phase_passed : (es : List Edge) (nodes : ℕ) (row : ℕ → List ℕ) (xs : List ℤ) (first levels : List (Option ℕ)) (spent : List ℕ) (last v l p : ℕ) → v < length spent → level_at levels v ≡ Some l → ((i : ℕ) → get_or spent v 0 ≤ i → i < p → IsSpent es xs levels v (l + 1) (get_or (row v) i 0)) → IsPhase es nodes row xs first levels spent last → IsPhase es nodes row xs first levels (set spent v p) last
phase_passed es nodes row xs first levels spent last v l p v_in at more h = record {
  left = h.left;
  passed = λ w m i w_in here b. elim (cases_eq w v) [
    | inl is ↦
        let level : l ≡ m = same_some l m (sym at ∙ ap (level_at levels) (sym is) ∙ here) in
        let set_is : get_or (set spent v p) w 0 ≡ p = ap (λ (n : ℕ). get_or (set spent v p) n 0) is ∙ get_or-set_same spent v p 0 v_in in
        elim (cases_lt i (get_or spent v 0)) [
          | inl old ↦ h.passed w m i w_in here (omega (arith, ap (λ (n : ℕ). get_or spent n 0) is))
          | inr new ↦
              let this : IsSpent es xs levels v (l + 1) (get_or (row v) i 0) = more i new (omega (arith, set_is)) in
              subst (λ (n : ℕ). IsSpent es xs levels n (m + 1) (get_or (row n) i 0)) (sym is) (subst (λ (n : ℕ). IsSpent es xs levels v (n + 1) (get_or (row v) i 0)) level this)
        ]
    | inr isnt ↦ h.passed w m i w_in here (omega (arith, get_or-set_other spent v w p 0 isnt))
  ];
  dead = h.dead;
  close = h.close;
}

-- a node whose edges are all passed over loses its level
module _ (es : List Edge) (nodes : ℕ) (row : ℕ → List ℕ) (xs : List ℤ) (first levels : List (Option ℕ)) (spent : List ℕ) (last v l : ℕ) (inc : IsIncidence es nodes row) (v_in : v < nodes) (v_at : v < length levels) (at : level_at levels v ≡ Some l) (all : get_or spent v 0 ≡ length (row v)) (h : IsPhase es nodes row xs first levels spent last) where
  abbrev without : List (Option ℕ)
  without = set levels v None

  gone_here : level_at without v ≡ None
  gone_here = get_or-set_same levels v None None v_at

  kept_there : (w : ℕ) → w ≢ v → level_at without w ≡ level_at levels w
  kept_there w d = get_or-set_other levels v w None None d

  thinner : (w m : ℕ) → level_at without w ≡ Some m → level_at levels w ≡ Some m
  thinner w m here = elim (cases_eq w v) [
    | inl is ↦ absurd (none_some (level_at without w) m (ap (level_at without) is ∙ gone_here) here)
    | inr isnt ↦ sym (kept_there w isnt) ∙ here
  ]

  spent_still : (w m k : ℕ) → IsSpent es xs levels w m k → IsSpent es xs without w m k
  spent_still w m k old room is = old room (thinner (other_end (edge_at es k) w) m is)

  all_spent : All (λ k. IsSpent es xs levels v (l + 1) k) (row v)
  all_spent i d b = subst (λ (k : ℕ). IsSpent es xs levels v (l + 1) k) (get_or_default (row v) i 0 d b) (h.passed v l i v_in at (omega (arith, all)))

  first_here : (m : ℕ) → level_at first v ≡ Some m → l ≡ m
  first_here m fh = elim (h.left v) [
    | inl same ↦ same_some l m (sym at ∙ same ∙ fh)
    | inr gone ↦ absurd (none_some (level_at levels v) l gone at)
  ]

  pub phase_died : IsPhase es nodes row xs first without spent last
  phase_died = record {
    left = λ w. elim (cases_eq w v) [
      | inl is ↦ inr (ap (level_at without) is ∙ gone_here)
      | inr isnt ↦ elim (h.left w) [
        | inl same ↦ inl (kept_there w isnt ∙ same)
        | inr gone ↦ inr (kept_there w isnt ∙ gone)
      ]
    ];
    passed = λ w m i w_in here b. spent_still w (m + 1) (get_or (row w) i 0) (h.passed w m i w_in (thinner w m here) b);
    dead = λ w m fw gone k b t. elim (cases_eq w v) [
      | inl is ↦
          let level : l ≡ m = first_here m (ap (level_at first) (sym is) ∙ fw) in
          let touches : Touches (edge_at es k) v = subst (Touches (edge_at es k)) is t in
          let this : IsSpent es xs levels v (l + 1) k = All-contains (λ (i : ℕ). IsSpent es xs levels v (l + 1) i) (row v) k all_spent (listed es nodes v row inc k b touches) in
          spent_still w (m + 1) k (subst (λ (n : ℕ). IsSpent es xs levels n (m + 1) k) (sym is) (subst (λ (n : ℕ). IsSpent es xs levels v (n + 1) k) level this))
      | inr isnt ↦ spent_still w (m + 1) k (h.dead w m fw (sym (kept_there w isnt) ∙ gone) k b t)
    ];
    close = h.close;
  }

pub fewer_at : (levels : List (Option ℕ)) (v l : ℕ) → v < length levels → level_at levels v ≡ Some l → count_by is_some (set levels v None) + 1 ≡ count_by is_some levels
fewer_at levels v l v_in at = omega (arith, sum_by-set (λ (o : Option ℕ). cond (is_some o) 1 0) levels v None None v_in, ap {B = ℕ} (λ (o : Option ℕ). cond (is_some o) 1 0) at)

-- at the end of a phase, in which the source has lost its level and the sink has not, the next levels reach the sink later
module _ (es : List Edge) (nodes : ℕ) (row : ℕ → List ℕ) (xs : List ℤ) (first levels : List (Option ℕ)) (spent : List ℕ) (last source sink : ℕ) (h : IsPhase es nodes row xs first levels spent last) (apart : source ≢ sink) (begun : level_at first source ≡ Some 0) (ended : level_at levels source ≡ None) (goal : level_at first sink ≡ Some last) (stays : level_at levels sink ≡ Some last) (next : List (Option ℕ)) (built : IsLevelling es xs source next) where
  -- no level falls, and an equal one is a lost one
  record IsNotLower (v m : ℕ) : Type 0 where
    was : ℕ
    had : level_at first v ≡ Some was
    at_most : was ≤ m
    lost : was ≡ m → level_at levels v ≡ None

  source_not_lower : (v m : ℕ) → v ≡ source → level_at next v ≡ Some m → IsNotLower v m
  source_not_lower v m is at = record {
    was = 0;
    had = ap (level_at first) is ∙ begun;
    at_most = omega arith;
    lost = λ e. ap (level_at levels) is ∙ ended;
  }

  climbed : (v m : ℕ) → m < last → (r : IsReached es xs next v m) → IsNotLower r.from r.lower → IsNotLower v m
  climbed v m far r from =
      let step : HasLevelUpTo first v (from.was + 1) = h.close r.from from.was from.had (omega (arith, r.above, from.at_most)) r.number v r.arc in
      record {
        was = step.level;
        had = step.found;
        at_most = omega (arith, r.above, step.at_most, from.at_most);
        lost = λ e. elim (h.left v) [
          | inr gone ↦ gone
          | inl same ↦
              let level : from.was ≡ r.lower = omega (arith, r.above, e, step.at_most, from.at_most) in
              let up : from.was + 1 ≡ step.level = omega (arith, r.above, e, level) in
              absurd (h.dead r.from from.was from.had (from.lost level) r.number r.arc.numbered r.arc.leaves r.arc.room (ap (level_at levels) r.arc.arrives ∙ same ∙ step.found ∙ ap Some (sym up)))
        ];
      }

  not_lower : (fuel v m : ℕ) → m ≤ fuel → m < last → level_at next v ≡ Some m → IsNotLower v m
  not_lower zero v m le far at = elim (cases_eq v source) [
    | inl is ↦ source_not_lower v m is at
    | inr isnt ↦ absurd (omega (arith, (built.reached v m at isnt).above))
  ]
  not_lower (suc fuel) v m le far at = elim (cases_eq v source) [
    | inl is ↦ source_not_lower v m is at
    | inr isnt ↦
        let r : IsReached es xs next v m = built.reached v m at isnt in
        climbed v m far r (not_lower fuel r.from r.lower (omega (arith, r.above)) (omega (arith, r.above)) r.below)
  ]

  pub later : (far : ℕ) → level_at next sink ≡ Some far → last < far
  later far at = elim (cases_lt last far) [
    | inl more ↦ more
    | inr less ↦
        let r : IsReached es xs next sink far = built.reached sink far at (λ e. apart (sym e)) in
        let from : IsNotLower r.from r.lower = not_lower r.lower r.from r.lower (omega arith) (omega (arith, r.above)) r.below in
        elim (cases_lt (from.was + 1) last) [
          | inl short ↦
              let step : HasLevelUpTo first sink (from.was + 1) = h.close r.from from.was from.had short r.number sink r.arc in
              absurd (omega (arith, step.at_most, same_some step.level last (sym step.found ∙ goal)))
          | inr near ↦
              let level : from.was ≡ r.lower = omega (arith, r.above, from.at_most) in
              let up : last ≡ from.was + 1 = omega (arith, r.above, from.at_most) in
              absurd (h.dead r.from from.was from.had (from.lost level) r.number r.arc.numbered r.arc.leaves r.arc.room (ap (level_at levels) r.arc.arrives ∙ stays ∙ ap Some up))
        ]
  ]
