-- Pairs that each join a place and the next one: their components are chains.
use Rattle.std.proofs.Common.{◌≡◌, ℕ, suc, ◌+◌, ◌<◌, ◌≤◌, ◌⊎◌, inl, inr, refl, sym, subst, ◌∙◌, arith, slice_index, List, [], ◌∷◌, length, cond, ◌==◌, true, false}
use Rattle.std.specs.List.{Contains, All, sum_by}
use Rattle.std.specs.List.Sorted.{IsStrictlyIncreasing}
use Rattle.std.proofs.lemmas.Bool.{cases_order}
use Rattle.std.proofs.lemmas.List.Elements.{All-head, All-tail, All-contains, Contains-get_or}
use Rattle.ofit_order.specs.Relation.{Relation, AreInOrder, ComesBefore}
use Rattle.ofit_order.specs.Within.{AreWithin}
use Rattle.ofit_order.specs.Connection.{Joins, IsWalkBy, AreConnected}
use Rattle.ofit_order.specs.Component.{AreMembers}
use Rattle.ofit_order.specs.Numbers.{HasComponent}
use Rattle.ofit_order.specs.declared.form.Form.TheVariants.{General}
use Rattle.ofit_order.specs.Form.{higher_count, HasOneFewer, RisesOnce, HasForm}
use Rattle.std.proofs.lemmas.Bool.Decides.{eqb_tells}
use Rattle.std.proofs.lemmas.List.Sums.{sum_by-cons}
use Rattle.ofit_order.proofs.Leading.{count_some, count_exists}
use Rattle.ofit_order.proofs.DoubleCounting.{sum_by-higher_count}
use Rattle.ofit_order.proofs.Increasing.{Contains-cons, Contains-head, Contains-cons_cases, increasing_head, increasing_tail}
use Rattle.ofit_order.proofs.Uniqueness.{LiesIn-connected, LiesIn-along, LiesIn-at}

-- a walk from at most m to above m takes the pair of m and the next place
crossing : (ps : List (ℕ × ℕ)) → All (λ p. p.1 ≡ suc p.0) ps → (m a b : ℕ) (walk : List ℕ) → IsWalkBy (Joins ps) a walk b → a ≤ m → m < b → Contains ps (m, suc m)
crossing ps steps m a b [] e l h = absurd (omega (arith, e, l, h))
crossing ps steps m a b (c ∷ walk) w l h = go w.0 (crossing ps steps m c b walk w.1) where
  go : Joins ps a c → (c ≤ m → m < b → Contains ps (m, suc m)) → Contains ps (m, suc m)
  go (inl up) rest =
      let step : c ≡ suc a = All-contains (λ p. p.1 ≡ suc p.0) ps (a, c) steps up in
      elim (cases_order a m) [
        | inl same ↦ subst (λ (n : ℕ). Contains ps (n, suc n)) same (subst (λ (n : ℕ). Contains ps (a, n)) step up)
        | inr other ↦ elim other [ inl below ↦ rest (omega (arith, step, below)) h | inr above ↦ absurd (omega (arith, above, l)) ]
      ]
  go (inr down) rest =
      let step : a ≡ suc c = All-contains (λ p. p.1 ≡ suc p.0) ps (c, a) steps down in
      rest (omega (arith, step, l)) h

-- no place is the low end of two steps
one_step : (ps : List (ℕ × ℕ)) → All (λ p. p.1 ≡ suc p.0) ps → AreInOrder ps → (a : ℕ) → higher_count ps a ≤ 1
one_step [] steps sorted a = omega arith
one_step (r ∷ rs) steps sorted a = go (one_step rs (All-tail (λ p. p.1 ≡ suc p.0) r rs steps) (AllPairs-rest r rs sorted) a) (eqb_tells r.0 a) where
  AllPairs-rest : (r : ℕ × ℕ) (rs : List (ℕ × ℕ)) → AreInOrder (r ∷ rs) → AreInOrder rs
  AllPairs-rest r rs h i j d l k = h (suc i) (suc j) d (omega arith) (omega (arith, k))

  before : (p : ℕ × ℕ) → Contains rs p → ComesBefore r p
  before p h = subst (ComesBefore r) h.2 (sorted 0 (suc h.0) p (omega arith) (omega (arith, h.1)))

  clash : (p : ℕ × ℕ) → p.0 ≡ r.0 → Contains rs p → ⊥
  clash p e h = elim (before p h) [
    | inl less ↦ omega (arith, less, e)
    | inr more ↦ omega (arith, more.1, e, All-head (λ p. p.1 ≡ suc p.0) r rs steps, All-contains (λ p. p.1 ≡ suc p.0) rs p (All-tail (λ p. p.1 ≡ suc p.0) r rs steps) h)
  ]

  go : higher_count rs a ≤ 1 → (((r.0 == a) ≡ true) × (r.0 ≡ a)) ⊎ (((r.0 == a) ≡ false) × (r.0 ≡ a → ⊥)) → higher_count (r ∷ rs) a ≤ 1
  go few (inr apart) =
      let nothing : ◌≡◌ {A = ℕ} (cond (r.0 == a) 1 0) 0 = rw apart.0 in
      omega (arith, sum_by-cons (λ (t : ℕ × ℕ). cond (t.0 == a) 1 0) r rs, nothing, few)
  go few (inl here) =
      let counted : ◌≡◌ {A = ℕ} (cond (r.0 == a) 1 0) 1 = rw here.0 in
      let rest : higher_count rs a ≡ 0 = none (cases_order (higher_count rs a) 0) in
      omega (arith, sum_by-cons (λ (t : ℕ × ℕ). cond (t.0 == a) 1 0) r rs, counted, rest)
    where
      none : (higher_count rs a ≡ 0) ⊎ ((higher_count rs a < 0) ⊎ (0 < higher_count rs a)) → higher_count rs a ≡ 0
      none (inl e) = e
      none (inr (inl l)) = absurd (omega (arith, l))
      none (inr (inr l)) = let found = count_exists (λ p. p.0) rs a (omega (arith, l)) in absurd (clash found.0 (found.1 ∙ sym here.1) found.2)

-- a list of places that each lead on to one more, but for the last, counts one fewer steps
one_fewer : (f : ℕ → ℕ) (x : ℕ) (xs : List ℕ) → IsStrictlyIncreasing (x ∷ xs)
    → ((m n : ℕ) → Contains (x ∷ xs) m → Contains (x ∷ xs) n → m < n → f m ≡ 1)
    → ((m : ℕ) → Contains (x ∷ xs) m → ((n : ℕ) → Contains (x ∷ xs) n → n ≤ m) → f m ≡ 0)
    → sum_by f (x ∷ xs) + 1 ≡ length (x ∷ xs)
one_fewer f x [] up on last = omega (arith, sum_by-cons f x [], last x (Contains-head x []) (λ n h. elim (Contains-cons_cases x [] n h) [ inl e ↦ omega (arith, e) | inr none ↦ absurd (omega (arith, none.1)) ]))
one_fewer f x (y ∷ ys) up on last =
    let rest = one_fewer f y ys (increasing_tail x (y ∷ ys) up) (λ m n h k l. on m n (Contains-cons x (y ∷ ys) m h) (Contains-cons x (y ∷ ys) n k) l)
    (λ m h most. last m (Contains-cons x (y ∷ ys) m h) (λ n k. elim (Contains-cons_cases x (y ∷ ys) n k) [
      | inl e ↦ let l = increasing_head x (y ∷ ys) m up h in omega (arith, e, l)
      | inr more ↦ most n more
    ])) in
    let first = on x y (Contains-head x (y ∷ ys)) (Contains-cons x (y ∷ ys) y (Contains-head y ys)) (increasing_head x (y ∷ ys) y up (Contains-head y ys)) in
    omega (arith, sum_by-cons f x (y ∷ ys), first, rest)

module _ (order : Relation) (steps : All (λ p. p.1 ≡ suc p.0) order.pairs) (sorted : AreInOrder order.pairs) (within : AreWithin order.pairs order.places) (component : ℕ) where
  -- members are connected, and what is connected with a member is one
  connected : (members : List ℕ) → AreMembers order component members → (p q : ℕ) → Contains members p → Contains members q → AreConnected order.pairs p q
  connected members are p q h k =
      let a = (are.exact p).0 h in
      let b = (are.exact q).0 k in
      LiesIn-connected order a.0 component p q a.2 (LiesIn-at order a.0 b.0 component q a.1 b.1 b.2)

  next_member : (members : List ℕ) → AreMembers order component members → (p : ℕ) → Contains members p → Contains order.pairs (p, suc p) → Contains members (suc p)
  next_member members are p h pair =
      let a = (are.exact p).0 h in
      let inside = (All-contains (λ e. (e.0 < order.places) × (e.1 < order.places)) order.pairs (p, suc p) within pair).1 in
      (are.exact (suc p)).1 (a.0, a.1, LiesIn-along order a.0 component p (suc p) a.2 inside (record { walk = suc p ∷ []; steps = (inl pair, refl) }))

  leads_on : (members : List ℕ) → AreMembers order component members → (m n : ℕ) → Contains members m → Contains members n → m < n → higher_count order.pairs m ≡ 1
  leads_on members are m n h k l =
      let way = connected members are m n h k in
      let pair = crossing order.pairs steps m m n way.walk way.steps (omega arith) l in
      omega (arith, count_some (λ p. p.0) order.pairs (m, suc m) pair, one_step order.pairs steps sorted m)

  leads_nowhere : (members : List ℕ) → AreMembers order component members → (m : ℕ) → Contains members m → ((n : ℕ) → Contains members n → n ≤ m) → higher_count order.pairs m ≡ 0
  leads_nowhere members are m h most = go (cases_order (higher_count order.pairs m) 0) where
    go : (higher_count order.pairs m ≡ 0) ⊎ ((higher_count order.pairs m < 0) ⊎ (0 < higher_count order.pairs m)) → higher_count order.pairs m ≡ 0
    go (inl e) = e
    go (inr (inl l)) = absurd (omega (arith, l))
    go (inr (inr l)) =
        let found = count_exists (λ p. p.0) order.pairs m (omega (arith, l)) in
        let step : found.0.1 ≡ suc found.0.0 = All-contains (λ p. p.1 ≡ suc p.0) order.pairs found.0 steps found.2 in
        let pair : Contains order.pairs (m, suc m) = subst (λ (t : ℕ). Contains order.pairs (t, suc t)) found.1 (subst (λ (t : ℕ). Contains order.pairs (found.0.0, t)) step found.2) in
        absurd (omega (arith, most (suc m) (next_member members are m h pair)))

  -- a component of steps is a chain
  pub steps_one_fewer : (members : List ℕ) → AreMembers order component members → (p : ℕ) → Contains members p → HasOneFewer order.pairs members
  steps_one_fewer [] are p h = absurd (omega (arith, h.1))
  steps_one_fewer (x ∷ xs) are p h =
      let counted = sum_by-higher_count order.pairs (x ∷ xs) are.rising in
      omega (arith, counted, one_fewer (higher_count order.pairs) x xs are.rising (leads_on (x ∷ xs) are) (leads_nowhere (x ∷ xs) are))

  pub steps_rise_once : (members : List ℕ) → RisesOnce order.pairs members
  steps_rise_once members = λ k d l. one_step order.pairs steps sorted _

  -- a component has a member, its least place
  some_member : HasComponent order component → (members : List ℕ) → AreMembers order component members → (p : ℕ) × Contains members p
  some_member has members are =
      let counted = has.1 in
      let least = counted.0 in
      let l : component < length least = omega (arith, has.2, counted.2) in
      let p = slice_index least component in
      (p, (are.exact p).1 (least, counted.1, record { counted = l; inside = ((counted.1.exact p).0 (Contains-get_or least component 0 l)).inside; connected = record { walk = []; steps = refl } }))

  -- so it isn't of the general form
  pub steps_not_general : HasComponent order component → HasForm order component General → ⊥
  steps_not_general has (members, are, fits) =
      let some = some_member has members are in
      fits (steps_one_fewer members are some.0 some.1) (inl (steps_rise_once members))
