-- The shape of a connected component with one pair fewer than members.
use Rattle.std.proofs.Common.{◌≡◌, ◌≢◌, ℕ, ◌+◌, ◌<◌, ◌≤◌, ◌⊎◌, inl, inr, List, [], ◌∷◌, length, slice_index, refl, sym, subst, ap, ◌∙◌, arith, suc, zero}
use Rattle.std.specs.List.{Contains, AllPairs, sum_by}
use Rattle.std.proofs.lemmas.List.Elements.{Contains-get_or}
use Rattle.std.proofs.lemmas.List.Kept.{AllPairs-cons}
use Rattle.ofit_order.specs.Connection.{LeadsUp, IsWalkBy, IsReached}
use Rattle.ofit_order.specs.Shape.{LeadsDown, RunsTo, Follows, IsChainOf}
use Rattle.ofit_order.proofs.Seeing.{not_in_nil}
use Rattle.ofit_order.proofs.Walks.{IsReached-refl, IsReached-cons, IsReached-keeps, IsReached-back}
use Rattle.ofit_order.proofs.Increasing.{Contains-head, Contains-cons_cases}
use Rattle.ofit_order.proofs.OneLeft.{one_left}
use Rattle.ofit_order.proofs.Leading.{Counts}

-- steps from members lead to members, and any two members are joined by steps taken on or back
pub record IsWhole (Step : ℕ → ℕ → Type 0) (members : List ℕ) : Type 0 where
  pub onward : (a b : ℕ) → Contains members a → Step a b → Contains members b
  pub backward : (a b : ℕ) → Contains members b → Step a b → Contains members a
  pub joined : (a b : ℕ) → Contains members a → Contains members b → IsReached (λ x y. Step x y ⊎ Step y x) a b

-- one step at most leads on from each place with P, to a place with P, and none from the end
pub record IsSingle (Step : ℕ → ℕ → Type 0) (P : ℕ → Type 0) (end : ℕ) : Type 0 where
  pub keeps : (a b : ℕ) → P a → Step a b → P b
  pub same : (a b c : ℕ) → P a → Step a b → Step a c → b ≡ c
  pub last : (b : ℕ) → Step end b → ⊥

reach_next : (Step : ℕ → ℕ → Type 0) (P : ℕ → Type 0) (end : ℕ) → IsSingle Step P end → (x y : ℕ) (walk : List ℕ) → P x → IsWalkBy Step x walk end → Step x y → IsReached Step y end
reach_next Step P end u x y [] h w s = absurd (u.last y (subst (λ (t : ℕ). Step t y) w s))
reach_next Step P end u x y (z ∷ walk) h w s =
    let e : z ≡ y = u.same x z y h w.0 s in
    subst (λ (t : ℕ). IsReached Step t end) e (record { walk = walk; steps = w.1 })

pub IsSingle-from : (Step : ℕ → ℕ → Type 0) (f : ℕ → ℕ) (members : List ℕ) (end : ℕ) → Counts Step f → IsWhole Step members → ((p : ℕ) → Contains members p → f p ≤ 1) → ((b : ℕ) → Step end b → ⊥) → IsSingle Step (Contains members) end
IsSingle-from Step f members end c whole few last = record {
  keeps = λ a b h s. whole.onward a b h s;
  same = λ x a b h s t. c.same x a b (few x h) s t;
  last = last;
}

pub RunsTo-from : (Step : ℕ → ℕ → Type 0) (f : ℕ → ℕ) (members : List ℕ) → Counts Step f → IsWhole Step members → ((p : ℕ) → Contains members p → f p ≤ 1) → sum_by f members + 1 ≡ length members → (end : ℕ) × RunsTo Step members end
RunsTo-from Step f members c whole few one =
    let o = one_left f members few one in
    let last : (b : ℕ) → Step o.left b → ⊥ = λ b h. c.none o.left b o.zero_there h in
    let u = IsSingle-from Step f members o.left c whole few last in
    let P : ℕ → Type 0 = λ p. Contains members p × IsReached Step p o.left in (
      o.left,
      record {
        member = o.member;
        last = last;
        others = λ p h n. c.one p (o.ones p h n);
        reached = λ p h. (IsReached-keeps (λ x y. Step x y ⊎ Step y x) P
            (λ a b q s. elim s [
              | inl t ↦ (whole.onward a b q.0 t, reach_next Step (Contains members) o.left u a b q.1.walk q.0 q.1.steps t)
              | inr t ↦ (whole.backward b a q.0 t, IsReached-cons Step b a o.left t q.1)
            ])
            o.left p (whole.joined o.left p o.member h) (o.member, IsReached-refl Step o.left)).1;
      },
    )

-- all places of a walk have what each step keeps
walk_keeps : (Step : ℕ → ℕ → Type 0) (P : ℕ → Type 0) → ((x y : ℕ) → P x → Step x y → P y) → (a : ℕ) (walk : List ℕ) (b : ℕ) → IsWalkBy Step a walk b → P a → (p : ℕ) → Contains (a ∷ walk) p → P p
walk_keeps Step P keeps a [] b w h p k = elim (Contains-cons_cases a [] p k) [ inl e ↦ subst P e h | inr n ↦ absurd (not_in_nil p n) ]
walk_keeps Step P keeps a (x ∷ walk) b w h p k =
    elim (Contains-cons_cases a (x ∷ walk) p k) [
      | inl e ↦ subst P e h
      | inr n ↦ walk_keeps Step P keeps x walk b w.1 (keeps a x h w.0) p n
    ]

after_suc : (k : ℕ) → suc k + 1 ≡ suc (k + 1)
after_suc k = omega arith

Follows-cons : (x : ℕ) (list : List ℕ) (a b : ℕ) → Follows list a b → Follows (x ∷ list) a b
Follows-cons x list a b f = (suc f.0, omega (arith, f.1), f.2, ap (slice_index (x ∷ list)) (after_suc f.0) ∙ f.3)

-- from a place of a walk to the end, a step leads to the place that follows
step_follows : (Step : ℕ → ℕ → Type 0) (P : ℕ → Type 0) (end : ℕ) → IsSingle Step P end → (x y : ℕ) → P x → Step x y → (a : ℕ) (walk : List ℕ) → IsWalkBy Step a walk end → Contains (a ∷ walk) x → Follows (a ∷ walk) x y
step_follows Step P end u x y p s a [] w h =
    elim (Contains-cons_cases a [] x h) [
      | inl e ↦ absurd (u.last y (subst (λ (t : ℕ). Step t y) (sym e ∙ w) s))
      | inr n ↦ absurd (not_in_nil x n)
    ]
step_follows Step P end u x y p s a (z ∷ walk) w h =
    elim (Contains-cons_cases a (z ∷ walk) x h) [
      | inl e ↦ (0, omega arith, e, u.same x z y p (subst (λ (t : ℕ). Step t z) e w.0) s)
      | inr n ↦ Follows-cons a (z ∷ walk) x y (step_follows Step P end u x y p s z walk w.1 n)
    ]

-- and the place that follows is one step on
follows_step : (Step : ℕ → ℕ → Type 0) (a : ℕ) (walk : List ℕ) (end : ℕ) → IsWalkBy Step a walk end → (x y k : ℕ) → k + 1 < length (a ∷ walk) → slice_index (a ∷ walk) k ≡ x → slice_index (a ∷ walk) (k + 1) ≡ y → Step x y
follows_step Step a [] end w x y k l e f = absurd (omega (arith, l))
follows_step Step a (z ∷ walk) end w x y zero l e f = subst (Step x) f (subst (λ (t : ℕ). Step t z) e w.0)
follows_step Step a (z ∷ walk) end w x y (suc k) l e f =
    follows_step Step z walk end w.1 x y k (omega (arith, l)) e (sym (ap (slice_index (a ∷ z ∷ walk)) (after_suc k)) ∙ f)

-- from a later place of a walk the way to the end is shorter
later : (Step : ℕ → ℕ → Type 0) (a : ℕ) (walk : List ℕ) (end : ℕ) → IsWalkBy Step a walk end → (x : ℕ) → Contains walk x → (rest : List ℕ) × IsWalkBy Step x rest end × (length rest < length walk)
later Step a [] end w x h = absurd (not_in_nil x h)
later Step a (z ∷ walk) end w x h =
    elim (Contains-cons_cases z walk x h) [
      | inl e ↦ (walk, subst (λ (t : ℕ). IsWalkBy Step t walk end) e w.1, omega arith)
      | inr n ↦ let r = later Step z walk end w.1 x n in (r.0, r.1, omega (arith, r.2))
    ]

-- all ways to the end are as long
same_length : (Step : ℕ → ℕ → Type 0) (P : ℕ → Type 0) (end : ℕ) → IsSingle Step P end → (a : ℕ) (v w : List ℕ) → P a → IsWalkBy Step a v end → IsWalkBy Step a w end → length v ≡ length w
same_length Step P end u a [] [] p x y = refl
same_length Step P end u a [] (z ∷ w) p x y = absurd (u.last z (subst (λ (t : ℕ). Step t z) x y.0))
same_length Step P end u a (z ∷ v) [] p x y = absurd (u.last z (subst (λ (t : ℕ). Step t z) y x.0))
same_length Step P end u a (z ∷ v) (t ∷ w) p x y =
    let e : t ≡ z = u.same a t z p y.0 x.0 in
    let rest = same_length Step P end u z v w (u.keeps a z p x.0) x.1 (subst (λ (q : ℕ). IsWalkBy Step q w end) e y.1) in
    omega (arith, rest)

-- so no place comes twice
walk_distinct : (Step : ℕ → ℕ → Type 0) (P : ℕ → Type 0) (end : ℕ) → IsSingle Step P end → (a : ℕ) (walk : List ℕ) → P a → IsWalkBy Step a walk end → AllPairs (λ x y. x ≢ y) (a ∷ walk)
walk_distinct Step P end u a [] p w = λ i j d l m. absurd (omega (arith, l, m))
walk_distinct Step P end u a (z ∷ walk) p w =
    AllPairs-cons (λ x y. x ≢ y) a (z ∷ walk)
    (λ k d l e.
    let again : Contains (z ∷ walk) a = subst (Contains (z ∷ walk)) (sym e) (Contains-get_or (z ∷ walk) k d l) in
    let r = later Step a (z ∷ walk) end w a again in
    let long = same_length Step P end u a r.0 (z ∷ walk) p r.1 w in
    omega (arith, r.2, long))
    (walk_distinct Step P end u z walk (u.keeps a z p w.0) w.1)

Follows-contains : (list : List ℕ) (a b : ℕ) → Follows list a b → Contains list b
Follows-contains list a b f = subst (Contains list) f.3 (Contains-get_or list (f.0 + 1) 0 f.1)

-- the walk from the lowest member to the highest has all members
pub IsChainOf-from : (pairs : List (ℕ × ℕ)) (members : List ℕ) (top bottom : ℕ) → IsSingle (LeadsUp pairs) (Contains members) top → RunsTo (LeadsUp pairs) members top → RunsTo (LeadsDown pairs) members bottom → (list : List ℕ) × IsChainOf pairs members list
IsChainOf-from pairs members top bottom u up down =
    let Up = LeadsUp pairs in
    let way = up.reached bottom down.member in
    let list = bottom ∷ way.walk in
    let P : ℕ → Type 0 = λ p. Contains members p × Contains list p in
    let all : (p : ℕ) → Contains members p → Contains list p = λ p h.
    (IsReached-keeps Up P
    (λ x y q s. (u.keeps x y q.0 s, Follows-contains list x y (step_follows Up (Contains members) top u x y q.0 s bottom way.walk way.steps q.1)))
    bottom p (IsReached-back (LeadsDown pairs) Up (λ x y h. h) p bottom (down.reached p h)) (down.member, Contains-head bottom way.walk)).1 in (
      list,
      record {
        same = λ p. ((λ h. walk_keeps Up (Contains members) u.keeps bottom way.walk top way.steps down.member p h), (λ h. all p h));
        distinct = walk_distinct Up (Contains members) top u bottom way.walk down.member way.steps;
        neighbours = λ a b h. (
          (λ s. step_follows Up (Contains members) top u a b h s bottom way.walk way.steps (all a h)),
          (λ f. follows_step Up bottom way.walk top way.steps a b f.0 f.1 f.2 f.3),
        );
      },
    )
