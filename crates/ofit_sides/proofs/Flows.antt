-- What flows out of nodes along pairs that lead to the next node each.
use Rattle.std.proofs.Common.{◌≡◌, ℕ, zero, suc, ◌+◌, ◌<◌, List, [], ◌∷◌, length, refl, sym, ap, subst, ◌∙◌, arith, Bool, true, false, cond, nat_eq, get_or, set, take, eq-eqb}
use Rattle.std.proofs.lemmas.Int.{ints}
use Rattle.std.proofs.lemmas.Bool.{eqb-true, eqb-false}
use Rattle.std.proofs.lemmas.List.{get_or_default, get_or-set_same, get_or-set_other}
use Rattle.std.proofs.lemmas.List.Elements.{All-head, All-tail}
use Rattle.std.specs.Prelude.{ℤ, pos, ◌+ℤ◌, ◌-ℤ◌, ◌<ℤ◌, All}
use Rattle.ofit_num.proofs.Sheets.{AllPairs-head, AllPairs-tail}
use Rattle.ofit_cut.specs.Balance.{balance}
use Rattle.ofit_sides.specs.Leaving.{leaving, RiseByLow}

-- what flows into a node
abbrev entering : List (ℕ × ℕ) → List ℤ → ℕ → ℤ
entering [] amounts node = pos 0
entering (pair ∷ pairs) [] node = pos 0
entering (pair ∷ pairs) (amount ∷ amounts) node = entering pairs amounts node +ℤ cond (nat_eq node pair.1) amount (pos 0)

parted : (b l e x y : ℤ) → b ≡ l -ℤ e → b +ℤ (x -ℤ y) ≡ (l +ℤ x) -ℤ (e +ℤ y)
parted b l e x y h = omega (arith, ints)

balance-parts : (pairs : List (ℕ × ℕ)) (amounts : List ℤ) (node : ℕ) → balance pairs amounts node ≡ leaving pairs amounts node -ℤ entering pairs amounts node
balance-parts [] amounts node = refl
balance-parts (pair ∷ pairs) [] node = refl
balance-parts (pair ∷ pairs) (amount ∷ amounts) node =
    parted (balance pairs amounts node) (leaving pairs amounts node) (entering pairs amounts node) (cond (nat_eq node pair.0) amount (pos 0)) (cond (nat_eq node pair.1) amount (pos 0)) (balance-parts pairs amounts node)

same_test : (x y u v : ℕ) → (x ≡ y → u ≡ v) → (u ≡ v → x ≡ y) → nat_eq x y ≡ nat_eq u v
same_test x y u v there back = go (nat_eq x y) refl where
  go : (b : Bool) → nat_eq x y ≡ b → nat_eq x y ≡ nat_eq u v
  go true e = e ∙ sym (eq-eqb u v (there (eqb-true x y e)))
  go false e = e ∙ other (nat_eq u v) refl where
    other : (b : Bool) → nat_eq u v ≡ b → false ≡ nat_eq u v
    other true f = absurd (eqb-false x y e (back (eqb-true u v f)))
    other false f = sym f

-- what leaves a node enters the next one, and nothing enters the first
abbrev LeadsOn : ℕ × ℕ → Type 0
LeadsOn e = e.1 ≡ suc e.0

entering-next : (pairs : List (ℕ × ℕ)) (amounts : List ℤ) (node : ℕ) → All LeadsOn pairs → entering pairs amounts (suc node) ≡ leaving pairs amounts node
entering-next [] amounts node h = refl
entering-next (pair ∷ pairs) [] node h = refl
entering-next (pair ∷ pairs) (amount ∷ amounts) node h =
    let on : pair.1 ≡ suc pair.0 = All-head LeadsOn pair pairs h in
    let test : nat_eq (suc node) pair.1 ≡ nat_eq node pair.0 = same_test (suc node) pair.1 node pair.0 (λ e. omega arith) (λ e. omega arith) in
    let rest : entering pairs amounts (suc node) ≡ leaving pairs amounts node = entering-next pairs amounts node (All-tail LeadsOn pair pairs h) in
    ap (λ (z : ℤ). z +ℤ cond (nat_eq (suc node) pair.1) amount (pos 0)) rest ∙ ap (λ (b : Bool). leaving pairs amounts node +ℤ cond b amount (pos 0)) test

entering-none : (pairs : List (ℕ × ℕ)) (amounts : List ℤ) → All LeadsOn pairs → entering pairs amounts zero ≡ pos 0
entering-none [] amounts h = refl
entering-none (pair ∷ pairs) [] h = refl
entering-none (pair ∷ pairs) (amount ∷ amounts) h =
    let on : pair.1 ≡ suc pair.0 = All-head LeadsOn pair pairs h in
    let rest : entering pairs amounts zero ≡ pos 0 = entering-none pairs amounts (All-tail LeadsOn pair pairs h) in
    ap (λ (z : ℤ). z +ℤ cond (nat_eq zero pair.1) amount (pos 0)) rest ∙ nothing (nat_eq zero pair.1) refl on
  where
    nothing : (b : Bool) → nat_eq zero pair.1 ≡ b → pair.1 ≡ suc pair.0 → pos 0 +ℤ cond b amount (pos 0) ≡ pos 0
    nothing true e on = absurd (let z : zero ≡ pair.1 = eqb-true zero pair.1 e in omega arith)
    nothing false e on = refl

pub balance-first : (pairs : List (ℕ × ℕ)) (amounts : List ℤ) → All LeadsOn pairs → balance pairs amounts zero ≡ leaving pairs amounts zero -ℤ pos 0
balance-first pairs amounts h = balance-parts pairs amounts zero ∙ ap (λ (z : ℤ). leaving pairs amounts zero -ℤ z) (entering-none pairs amounts h)

pub balance-next : (pairs : List (ℕ × ℕ)) (amounts : List ℤ) (node : ℕ) → All LeadsOn pairs → balance pairs amounts (suc node) ≡ leaving pairs amounts (suc node) -ℤ leaving pairs amounts node
balance-next pairs amounts node h = balance-parts pairs amounts (suc node) ∙ ap (λ (z : ℤ). leaving pairs amounts (suc node) -ℤ z) (entering-next pairs amounts node h)

plus_zero : (x : ℤ) → x +ℤ pos 0 ≡ x
plus_zero x = omega (arith, ints)

zero_plus : (x : ℤ) → pos 0 +ℤ x ≡ x
zero_plus x = omega (arith, ints)

-- nothing leaves a node that isn't the low end of a pair
pub leaving-none : (pairs : List (ℕ × ℕ)) (amounts : List ℤ) (node : ℕ) → All (λ e. e.0 ≡ node → ⊥) pairs → leaving pairs amounts node ≡ pos 0
leaving-none [] amounts node h = refl
leaving-none (pair ∷ pairs) [] node h = refl
leaving-none (pair ∷ pairs) (amount ∷ amounts) node h =
    ap (λ (z : ℤ). z +ℤ cond (nat_eq node pair.0) amount (pos 0)) (leaving-none pairs amounts node (All-tail (λ e. e.0 ≡ node → ⊥) pair pairs h)) ∙ other (nat_eq node pair.0) refl
  where
    other : (b : Bool) → nat_eq node pair.0 ≡ b → pos 0 +ℤ cond b amount (pos 0) ≡ pos 0
    other true e = absurd (All-head (λ e. e.0 ≡ node → ⊥) pair pairs h (sym (eqb-true node pair.0 e)))
    other false e = refl

-- what leaves a node is 0 or the amount of one pair
pub leaving-keeps : (P : ℤ → Type 0) → P (pos 0) → (pairs : List (ℕ × ℕ)) (amounts : List ℤ) (node : ℕ) → RiseByLow pairs → All P amounts → P (leaving pairs amounts node)
leaving-keeps P none [] amounts node rising h = none
leaving-keeps P none (pair ∷ pairs) [] node rising h = none
leaving-keeps P none (pair ∷ pairs) (amount ∷ amounts) node rising h =
    go (nat_eq node pair.0) refl (leaving-keeps P none pairs amounts node (AllPairs-tail (λ e f. e.0 < f.0) pair pairs rising) (All-tail P amount amounts h))
  where
    go : (b : Bool) → nat_eq node pair.0 ≡ b → P (leaving pairs amounts node) → P (leaving pairs amounts node +ℤ cond b amount (pos 0))
    go true e rest =
        let same : node ≡ pair.0 = eqb-true node pair.0 e in
        let above : All (λ f. pair.0 < f.0) pairs = AllPairs-head (λ e f. e.0 < f.0) pair pairs rising in
        let gone : leaving pairs amounts node ≡ pos 0 = leaving-none pairs amounts node (λ k d l i. absurd (let a : pair.0 < (get_or pairs k d).0 = above k d l in omega arith)) in
        subst P (sym (ap (λ (z : ℤ). z +ℤ amount) gone ∙ zero_plus amount)) (All-head P amount amounts h)
    go false e rest = subst P (sym (plus_zero (leaving pairs amounts node))) rest

-- where something leaves a node, a pair has it as its low end
pub leaving-some : (X : Type 0) (pairs : List (ℕ × ℕ)) (amounts : List ℤ) (node : ℕ) → All (λ e. e.0 ≡ node → X) pairs → pos 0 <ℤ leaving pairs amounts node → X
leaving-some X [] amounts node h l = absurd (omega (arith, ints, l))
leaving-some X (pair ∷ pairs) [] node h l = absurd (omega (arith, ints, l))
leaving-some X (pair ∷ pairs) (amount ∷ amounts) node h l =
    go (nat_eq node pair.0) refl (leaving-some X pairs amounts node (All-tail (λ e. e.0 ≡ node → X) pair pairs h)) l
  where
    go : (b : Bool) → nat_eq node pair.0 ≡ b → (pos 0 <ℤ leaving pairs amounts node → X) → pos 0 <ℤ (leaving pairs amounts node +ℤ cond b amount (pos 0)) → X
    go true e rest l = All-head (λ e. e.0 ≡ node → X) pair pairs h (sym (eqb-true node pair.0 e))
    go false e rest l = rest (subst (λ (z : ℤ). pos 0 <ℤ z) (plus_zero (leaving pairs amounts node)) l)

-- a pair more
leaving-more : (pairs : List (ℕ × ℕ)) (amounts : List ℤ) (i node : ℕ) (d : ℕ × ℕ) (z : ℤ) → i < length pairs → i < length amounts
    → leaving (take (suc i) pairs) (take (suc i) amounts) node ≡ leaving (take i pairs) (take i amounts) node +ℤ cond (nat_eq node (get_or pairs i d).0) (get_or amounts i z) (pos 0)
leaving-more [] amounts i node d z l m = absurd (omega arith)
leaving-more (pair ∷ pairs) [] i node d z l m = absurd (omega arith)
leaving-more (pair ∷ pairs) (amount ∷ amounts) zero node d z l m = refl
leaving-more (pair ∷ pairs) (amount ∷ amounts) (suc i) node d z l m =
    turned _ _ _ _ (leaving-more pairs amounts i node d z (omega arith) (omega arith))
  where
    turned : (x y a b : ℤ) → x ≡ y +ℤ b → x +ℤ a ≡ (y +ℤ a) +ℤ b
    turned x y a b e = omega (arith, ints)

-- of the pairs before one of rising pairs none has its low end
leaving-before : (pairs : List (ℕ × ℕ)) (amounts : List ℤ) (i : ℕ) (d : ℕ × ℕ) → RiseByLow pairs → i < length pairs → leaving (take i pairs) (take i amounts) (get_or pairs i d).0 ≡ pos 0
leaving-before [] amounts i d rising l = absurd (omega arith)
leaving-before (pair ∷ pairs) amounts zero d rising l = refl
leaving-before (pair ∷ pairs) [] (suc i) d rising l = refl
leaving-before (pair ∷ pairs) (amount ∷ amounts) (suc i) d rising l =
    ap (λ (z : ℤ). z +ℤ cond (nat_eq (get_or pairs i d).0 pair.0) amount (pos 0)) (leaving-before pairs amounts i d (AllPairs-tail (λ e f. e.0 < f.0) pair pairs rising) (omega arith))
    ∙ other (nat_eq (get_or pairs i d).0 pair.0) refl
  where
    other : (b : Bool) → nat_eq (get_or pairs i d).0 pair.0 ≡ b → pos 0 +ℤ cond b amount (pos 0) ≡ pos 0
    other true e = absurd (let a : pair.0 < (get_or pairs i d).0 = AllPairs-head (λ e f. e.0 < f.0) pair pairs rising i d (omega arith) in let s = eqb-true _ _ e in omega arith)
    other false e = refl

-- the flow along one pair more is written at its low end
module _ (pairs : List (ℕ × ℕ)) (amounts : List ℤ) (i : ℕ) (pair : ℕ × ℕ) (amount : ℤ) (inside : i < length pairs) (counted : length amounts ≡ length pairs) (rising : RiseByLow pairs) (at : get_or pairs i pair ≡ pair) (is : amount ≡ get_or amounts i (pos 0)) where
  at_next : (node : ℕ) → leaving (take (i + 1) pairs) (take (i + 1) amounts) node ≡ leaving (take i pairs) (take i amounts) node +ℤ cond (nat_eq node pair.0) amount (pos 0)
  at_next node =
      let next : i + 1 ≡ suc i = omega arith in
      ap (λ (j : ℕ). leaving (take j pairs) (take j amounts) node) next ∙ leaving-more pairs amounts i node pair (pos 0) inside (omega arith)
      ∙ ap (λ (e : ℕ × ℕ). leaving (take i pairs) (take i amounts) node +ℤ cond (nat_eq node e.0) (get_or amounts i (pos 0)) (pos 0)) at
      ∙ ap (λ (z : ℤ). leaving (take i pairs) (take i amounts) node +ℤ cond (nat_eq node pair.0) z (pos 0)) (sym is)

  pub leaving-here : leaving (take (i + 1) pairs) (take (i + 1) amounts) pair.0 ≡ amount
  leaving-here =
      let before : leaving (take i pairs) (take i amounts) pair.0 ≡ pos 0 = ap (λ (e : ℕ × ℕ). leaving (take i pairs) (take i amounts) e.0) (sym at) ∙ leaving-before pairs amounts i pair rising inside in
      at_next pair.0 ∙ ap (λ (b : Bool). leaving (take i pairs) (take i amounts) pair.0 +ℤ cond b amount (pos 0)) (eq-eqb pair.0 pair.0 refl) ∙ ap (λ (z : ℤ). z +ℤ amount) before ∙ zero_plus amount

  pub leaving-elsewhere : (node : ℕ) → (node ≡ pair.0 → ⊥) → leaving (take (i + 1) pairs) (take (i + 1) amounts) node ≡ leaving (take i pairs) (take i amounts) node
  leaving-elsewhere node other = at_next node ∙ go (nat_eq node pair.0) refl where
    go : (b : Bool) → nat_eq node pair.0 ≡ b → leaving (take i pairs) (take i amounts) node +ℤ cond b amount (pos 0) ≡ leaving (take i pairs) (take i amounts) node
    go true e = absurd (other (eqb-true node pair.0 e))
    go false e = plus_zero (leaving (take i pairs) (take i amounts) node)

-- what is written so far
pub flow_written : (pairs : List (ℕ × ℕ)) (amounts flows : List ℤ) (i n : ℕ) (z : ℤ) → i < length pairs → length amounts ≡ length pairs → RiseByLow pairs → length flows ≡ n → (get_or pairs i (0, 0)).0 < n → z ≡ get_or amounts i (pos 0)
    → ((node : ℕ) → node < n → get_or flows node (pos 0) ≡ leaving (take i pairs) (take i amounts) node) → (node : ℕ) → node < n → get_or (set flows (get_or pairs i (0, 0)).0 z) node (pos 0) ≡ leaving (take (i + 1) pairs) (take (i + 1) amounts) node
flow_written pairs amounts flows i n z inside counted rising long low is each node l = go (nat_eq node pair.0) refl where
  pair : ℕ × ℕ
  pair = get_or pairs i (0, 0)

  at : get_or pairs i pair ≡ pair
  at = get_or_default pairs i pair (0, 0) inside

  go : (b : Bool) → nat_eq node pair.0 ≡ b → get_or (set flows pair.0 z) node (pos 0) ≡ leaving (take (i + 1) pairs) (take (i + 1) amounts) node
  go true e =
      subst (λ (k : ℕ). get_or (set flows pair.0 z) k (pos 0) ≡ leaving (take (i + 1) pairs) (take (i + 1) amounts) k) (sym (eqb-true node pair.0 e))
      (get_or-set_same flows pair.0 z (pos 0) (omega (arith, low, long)) ∙ sym (leaving-here pairs amounts i pair z inside counted rising at is))
  go false e =
      get_or-set_other flows pair.0 node z (pos 0) (eqb-false node pair.0 e) ∙ each node l ∙ sym (leaving-elsewhere pairs amounts i pair z inside counted rising at is node (eqb-false node pair.0 e))
