-- What crosses the border of a set of nodes: the value of a flow, for a cut; at most the cut's capacity.
use Rattle.std.proofs.Common.{◌≡◌, ℕ, zero, suc, ◌<◌, ◌≤◌, ◌+◌, refl, ap, sym, ◌∙◌, arith, List, [], ◌∷◌, Bool, true, false, cond, eqb, not, ◌&&◌}
use Rattle.std.proofs.lemmas.Int.{ints, by_lt_z}
use Rattle.std.proofs.lemmas.Bool.{false≢true}
use Rattle.std.specs.Prelude.{ℤ, pos, ◌+ℤ◌, ◌-ℤ◌, ◌≤ℤ◌, ◌<ℤ◌}
use Rattle.ofit_flow.specs.declared.edge.Edge.{Edge}
use Rattle.ofit_flow.specs.Flow.{total, given_out, taken_in, value_of, IsWithin, IsFlow}
use Rattle.ofit_flow.specs.Cut.{IsCut, capacity}
use Rattle.ofit_flow.specs.Residual.{IsClosedAt, IsClosed}
use Rattle.ofit_flow.proofs.Sums.{total-sub, set_sum, set_sum-add, set_sum-sub, set_sum-zero, set_sum-at, set_sum-one}

-- what of an edge's amount leaves the set, less what enters it
abbrev pub crossing_part : (ℕ → Bool) → Edge → ℤ → ℤ
crossing_part set e x = cond (set e.from) x (pos 0) -ℤ cond (set e.to) x (pos 0)

abbrev pub crossing : (ℕ → Bool) → List Edge → List ℤ → ℤ
crossing set es xs = total (crossing_part set) es xs

-- what an edge's amount takes from a node
abbrev pub node_part : ℕ → Edge → ℤ → ℤ
node_part v e x = cond (eqb e.from v) x (pos 0) -ℤ cond (eqb e.to v) x (pos 0)

-- what leaves a node less what enters it
abbrev pub net_out : ℕ → List Edge → List ℤ → ℤ
net_out v es xs = total (node_part v) es xs

pub net_out_is : (v : ℕ) (es : List Edge) (xs : List ℤ) → net_out v es xs ≡ given_out v es xs -ℤ taken_in v es xs
net_out_is v es xs = total-sub (λ e x. cond (eqb e.from v) x (pos 0)) (λ e x. cond (eqb e.to v) x (pos 0)) es xs

-- both ends of each edge are below n
abbrev pub EndsBelow : ℕ → List Edge → Type 0
EndsBelow n [] = Unit {0}
EndsBelow n (e ∷ es) = (e.from < n) × (e.to < n) × EndsBelow n es

EndsBelow-more : (n m : ℕ) (es : List Edge) → n ≤ m → EndsBelow n es → EndsBelow m es
EndsBelow-more n m [] l h = tt
EndsBelow-more n m (e ∷ es) l h = (omega arith, omega arith, EndsBelow-more n m es l h.2)

pub ends_bound : (es : List Edge) → (n : ℕ) × EndsBelow n es
ends_bound [] = (0, tt)
ends_bound (e ∷ es) =
    let r = ends_bound es in
    (suc (e.from + e.to + r.0), (omega arith, omega arith, EndsBelow-more r.0 (suc (e.from + e.to + r.0)) es (omega arith) r.1))

part_sum : (set : ℕ → Bool) (n : ℕ) (e : Edge) (x : ℤ) → e.from < n → e.to < n → set_sum set (λ v. node_part v e x) n ≡ crossing_part set e x
part_sum set n e x l m =
    let parted : set_sum set (λ v. node_part v e x) n ≡ set_sum set (λ v. cond (eqb e.from v) x (pos 0)) n -ℤ set_sum set (λ v. cond (eqb e.to v) x (pos 0)) n = set_sum-sub set _ _ n in
    omega (arith, ints, parted, set_sum-one set e.from n x l, set_sum-one set e.to n x m)

-- what crosses the border of a set is what its nodes give out, summed
pub crossing_is : (set : ℕ → Bool) (n : ℕ) (es : List Edge) (xs : List ℤ) → EndsBelow n es → crossing set es xs ≡ set_sum set (λ v. net_out v es xs) n
crossing_is set n [] xs h = sym (set_sum-zero set (λ v. pos 0) n (λ v l k. refl))
crossing_is set n (e ∷ es) [] h = sym (set_sum-zero set (λ v. pos 0) n (λ v l k. refl))
crossing_is set n (e ∷ es) (x ∷ xs) h =
    let parted : set_sum set (λ v. node_part v e x +ℤ net_out v es xs) n ≡ set_sum set (λ v. node_part v e x) n +ℤ set_sum set (λ v. net_out v es xs) n = set_sum-add set _ _ n in
    omega (arith, ints, parted, part_sum set n e x h.0 h.1, crossing_is set n es xs h.2)

-- the value of a flow crosses every cut
pub crossing-flow : (es : List Edge) (s t : ℕ) (xs : List ℤ) (set : ℕ → Bool) → IsFlow es s t xs → IsCut s t set → crossing set es xs ≡ value_of es s xs
crossing-flow es s t xs set flow cut =
    let r = ends_bound es in
    let n : ℕ = suc (s + r.0) in
    let sums : crossing set es xs ≡ set_sum set (λ v. net_out v es xs) n = crossing_is set n es xs (EndsBelow-more r.0 n es (omega arith) r.1) in
    let only : set_sum set (λ v. net_out v es xs) n ≡ cond (set s) (net_out s es xs) (pos 0) =
    set_sum-at set (λ v. net_out v es xs) n s (omega arith) (λ v l k d.
    let balance : taken_in v es xs ≡ given_out v es xs = flow.conserved v d (λ e. false≢true (sym cut.lacks_sink ∙ ap set (sym e) ∙ k)) in
    omega (arith, ints, net_out_is v es xs, balance)) in
    let whole : cond (set s) (net_out s es xs) (pos 0) ≡ net_out s es xs = ap (λ (b : Bool). cond b (net_out s es xs) (pos 0)) cut.has_source in
    sums ∙ only ∙ whole ∙ net_out_is s es xs

-- the parts of one edge
abbrev capacity_part : (ℕ → Bool) → Edge → ℤ
capacity_part set e = cond (set e.from && not (set e.to)) e.cap (pos 0)

part-le : (p q : Bool) (x c : ℤ) → pos 0 ≤ℤ x → x ≤ℤ c → (cond p x (pos 0) -ℤ cond q x (pos 0)) ≤ℤ cond (p && not q) c (pos 0)
part-le true true x c l h = omega (arith, ints)
part-le true false x c l h = omega (arith, ints)
part-le false true x c l h = omega (arith, ints)
part-le false false x c l h = omega (arith, ints)

within_rest : (e : Edge) (es : List Edge) (x : ℤ) (xs : List ℤ) → IsWithin (e ∷ es) (x ∷ xs) → IsWithin es xs
within_rest e es x xs h = record { counted = omega (arith, h.counted); low = λ k l. h.low (suc k) (omega arith); high = λ k l. h.high (suc k) (omega arith) }

head-le : (set : ℕ → Bool) (e : Edge) (es : List Edge) (x : ℤ) (xs : List ℤ) → IsWithin (e ∷ es) (x ∷ xs) → crossing_part set e x ≤ℤ capacity_part set e
head-le set e es x xs h = part-le (set e.from) (set e.to) x e.cap (h.low 0 (omega arith)) (h.high 0 (omega arith))

-- at most the capacity crosses
pub crossing-le : (set : ℕ → Bool) (es : List Edge) (xs : List ℤ) → IsWithin es xs → crossing set es xs ≤ℤ capacity set es
crossing-le set [] xs h = omega (arith, ints)
crossing-le set (e ∷ es) [] h = absurd (omega (arith, h.counted))
crossing-le set (e ∷ es) (x ∷ xs) h = omega (arith, ints, head-le set e es x xs h, crossing-le set es xs (within_rest e es x xs h))

tight_part : (set : ℕ → Bool) (e : Edge) (x : ℤ) → pos 0 ≤ℤ x → x ≤ℤ e.cap → crossing_part set e x ≡ capacity_part set e → IsClosedAt set e x
tight_part set e x l h same = record {
  forwards = λ k m. forwards_at (set e.from) (set e.to) k m same;
  backwards = λ k m. backwards_at (set e.from) (set e.to) k m same;
} where
  forwards_at : (p q : Bool) → p ≡ true → x <ℤ e.cap → cond p x (pos 0) -ℤ cond q x (pos 0) ≡ cond (p && not q) e.cap (pos 0) → q ≡ true
  forwards_at p true k m g = refl
  forwards_at true false k m g = absurd (omega (arith, ints))
  forwards_at false false k m g = k

  backwards_at : (p q : Bool) → q ≡ true → pos 0 <ℤ x → cond p x (pos 0) -ℤ cond q x (pos 0) ≡ cond (p && not q) e.cap (pos 0) → p ≡ true
  backwards_at true q k m g = refl
  backwards_at false true k m g = absurd (omega (arith, ints))
  backwards_at false false k m g = k

-- where the whole capacity crosses, nothing more can leave the set
pub closed_from_tight : (set : ℕ → Bool) (es : List Edge) (xs : List ℤ) → IsWithin es xs → crossing set es xs ≡ capacity set es → IsClosed es xs set
closed_from_tight set [] xs h same k l = absurd (omega arith)
closed_from_tight set (e ∷ es) [] h same k l = absurd (omega (arith, h.counted))
closed_from_tight set (e ∷ es) (x ∷ xs) h same zero l =
    tight_part set e x (h.low 0 (omega arith)) (h.high 0 (omega arith)) (omega (arith, ints, head-le set e es x xs h, crossing-le set es xs (within_rest e es x xs h)))
closed_from_tight set (e ∷ es) (x ∷ xs) h same (suc k) l =
    closed_from_tight set es xs (within_rest e es x xs h) (omega (arith, ints, head-le set e es x xs h, crossing-le set es xs (within_rest e es x xs h))) k (omega arith)

part_full : (set : ℕ → Bool) (e : Edge) (x : ℤ) → pos 0 ≤ℤ x → x ≤ℤ e.cap → IsClosedAt set e x → crossing_part set e x ≡ capacity_part set e
part_full set e x l h closed = full (set e.from) (set e.to) closed.forwards closed.backwards where
  full : (p q : Bool) → (p ≡ true → x <ℤ e.cap → q ≡ true) → (q ≡ true → pos 0 <ℤ x → p ≡ true) → cond p x (pos 0) -ℤ cond q x (pos 0) ≡ cond (p && not q) e.cap (pos 0)
  full true true f b = omega (arith, ints)
  full true false f b = by_lt_z x e.cap (λ m. absurd (false≢true (f refl m))) (λ m. omega (arith, ints))
  full false true f b = by_lt_z (pos 0) x (λ m. absurd (false≢true (b refl m))) (λ m. omega (arith, ints))
  full false false f b = omega (arith, ints)

-- where nothing more can leave the set, its whole capacity crosses
pub tight_from_closed : (set : ℕ → Bool) (es : List Edge) (xs : List ℤ) → IsWithin es xs → IsClosed es xs set → crossing set es xs ≡ capacity set es
tight_from_closed set [] xs h closed = refl
tight_from_closed set (e ∷ es) [] h closed = absurd (omega (arith, h.counted))
tight_from_closed set (e ∷ es) (x ∷ xs) h closed =
    omega (arith, ints, part_full set e x (h.low 0 (omega arith)) (h.high 0 (omega arith)) (closed 0 (omega arith)), tight_from_closed set es xs (within_rest e es x xs h) (λ k l. closed (suc k) (omega arith)))
