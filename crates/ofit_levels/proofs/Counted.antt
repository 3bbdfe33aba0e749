-- The orderings of a rising list, counted by their left-to-right maxima.
use Rattle.std.proofs.Common.{◌≡◌, ℕ, zero, suc, ◌+◌, ◌-◌, ◌*◌, ◌<◌, ◌≤◌, inl, inr, Bool, false, cond, eqb, leb, ◌&&◌, List, [], ◌∷◌, map, length, refl, ap, sym, ◌∙◌, arith}
use Rattle.std.specs.List.{sum_by, count_by, flat_map}
use Rattle.std.proofs.lemmas.Bool.Decides.{leb_tells, eqb_tells}
use Rattle.std.proofs.lemmas.List.Sums.{sum_by-cons}
use Rattle.ofit_levels.specs.Orderings.{picks, orderings_of}
use Rattle.ofit_levels.specs.Level.{is_above_all, maxima_behind}
use Rattle.ofit_levels.proofs.Sums.{sum_by-map, sum_by-flat_map, sum_by-agree}
use Rattle.ofit_levels.proofs.Ways.{shifted, sum_below, ways, ways-zero, ways-suc}
use Rattle.ofit_levels.proofs.Rising.{Rises, at_least, rank_term, sum_by-rank, leb-yes, leb-no}
use Rattle.ofit_levels.proofs.Picked.{Leaves, sum_by-picks}

-- the numbers above all those before are the ones that are at least the bound
abbrev pub IsBound : ℕ → List ℕ → Type 0
IsBound bound before = (item : ℕ) → is_above_all before item ≡ leb bound item

-- the orderings with so many maxima behind those that have gone ahead
abbrev pub count_behind : List ℕ → List (List ℕ) → ℕ → ℕ
count_behind before orderings l = count_by (λ ordering. eqb (maxima_behind before ordering) l) orderings

bound_raised : (bound : ℕ) (before : List ℕ) (x : ℕ) → IsBound bound before → bound ≤ x → IsBound (suc x) (x ∷ before)
bound_raised bound before x b h item =
    elim (leb_tells (suc x) item) [
      | inl reached ↦ ap (λ (t : Bool). t && is_above_all before item) reached.0 ∙ b item ∙ leb-yes bound item (omega (arith, h, reached.1)) ∙ sym reached.0
      | inr missed ↦ ap (λ (t : Bool). t && is_above_all before item) missed.0 ∙ sym missed.0
    ]

bound_kept : (bound : ℕ) (before : List ℕ) (x : ℕ) → IsBound bound before → x < bound → IsBound bound (x ∷ before)
bound_kept bound before x b h item =
    elim (leb_tells (suc x) item) [
      | inl reached ↦ ap (λ (t : Bool). t && is_above_all before item) reached.0 ∙ b item
      | inr missed ↦ ap (λ (t : Bool). t && is_above_all before item) missed.0 ∙ sym (leb-no bound item (omega (arith, h, missed.1)))
    ]

maxima_behind-cons : (bound : ℕ) (before : List ℕ) (x : ℕ) (others : List ℕ) → IsBound bound before → maxima_behind before (x ∷ others) ≡ cond (leb bound x) (suc (maxima_behind (x ∷ before) others)) (maxima_behind (x ∷ before) others)
unfolding maxima_behind
maxima_behind-cons bound before x others b = ap (λ (t : Bool). cond t (suc (maxima_behind (x ∷ before) others)) (maxima_behind (x ∷ before) others)) (b x)

shifted-agree : (f g : ℕ → ℕ) (l : ℕ) → ((i : ℕ) → f i ≡ g i) → shifted f l ≡ shifted g l
shifted-agree f g zero same = refl
shifted-agree f g (suc l) same = same l

eqb-suc-zero : (m : ℕ) → eqb (suc m) 0 ≡ false
eqb-suc-zero m = elim (eqb_tells (suc m) 0) [ inl same ↦ absurd (omega (arith, same.1)) | inr apart ↦ apart.0 ]

eqb-suc-suc : (m l : ℕ) → eqb (suc m) (suc l) ≡ eqb m l
eqb-suc-suc m l =
    elim (eqb_tells m l) [
      | inl same ↦ elim (eqb_tells (suc m) (suc l)) [ inl here ↦ here.0 ∙ sym same.0 | inr there ↦ absurd (there.1 (ap suc same.1)) ]
      | inr apart ↦ elim (eqb_tells (suc m) (suc l)) [ inl here ↦ absurd (apart.1 (omega (arith, here.1))) | inr there ↦ there.0 ∙ sym apart.0 ]
    ]

-- one maximum more in each ordering
count_raised : (m : List ℕ → ℕ) (orderings : List (List ℕ)) (l : ℕ) → count_by (λ ordering. eqb (suc (m ordering)) l) orderings ≡ shifted (λ i. count_by (λ ordering. eqb (m ordering) i) orderings) l
count_raised m [] zero = refl
count_raised m (o ∷ os) zero =
    let cons = sum_by-cons (λ (ordering : List ℕ). cond (eqb (suc (m ordering)) 0) 1 0) o os in
    let none : ◌≡◌ {A = ℕ} (cond (eqb (suc (m o)) 0) 1 0) 0 = ap (λ (t : Bool). cond {A = ℕ} t 1 0) (eqb-suc-zero (m o)) in
    omega (arith, cons, none, count_raised m os 0)
count_raised m os (suc l) =
    sum_by-agree (λ ordering. cond (eqb (suc (m ordering)) (suc l)) 1 0) (λ ordering. cond (eqb (m ordering) l) 1 0) os (λ ordering. ap (λ (t : Bool). cond {A = ℕ} t 1 0) (eqb-suc-suc (m ordering) l))

-- the orderings that begin with one item
first_counted : (n bound : ℕ) (before xs : List ℕ) (l x : ℕ) (rest : List ℕ) → IsBound bound before → Leaves xs x rest
    → ((raised : ℕ) (behind : List ℕ) (i : ℕ) → IsBound raised behind → count_behind behind (orderings_of n rest) i ≡ ways n (at_least raised rest) i)
    → count_by (λ others. eqb (maxima_behind before (x ∷ others)) l) (orderings_of n rest) ≡ rank_term (λ j. shifted (ways n j) l) (ways n (at_least bound xs) l) bound xs x
first_counted n bound before xs l x rest b leaves each =
    let m = λ (others : List ℕ). maxima_behind (x ∷ before) others in
    let os = orderings_of n rest in
    let chosen : count_by (λ others. eqb (maxima_behind before (x ∷ others)) l) os ≡ count_by (λ others. eqb (cond (leb bound x) (suc (m others)) (m others)) l) os =
    sum_by-agree _ _ os (λ others. ap (λ (t : ℕ). cond {A = ℕ} (eqb t l) 1 0) (maxima_behind-cons bound before x others b)) in
    elim (leb_tells bound x) [
      | inl reached ↦
          let up : count_by (λ others. eqb (cond (leb bound x) (suc (m others)) (m others)) l) os ≡ count_by (λ others. eqb (suc (m others)) l) os =
          ap (λ (t : Bool). count_by (λ others. eqb (cond t (suc (m others)) (m others)) l) os) reached.0 in
          let none : ◌≡◌ {A = ℕ} (cond (leb (suc x) x) 1 0) 0 = ap (λ (t : Bool). cond {A = ℕ} t 1 0) (leb-no (suc x) x (omega arith)) in
          let same : at_least (suc x) rest ≡ at_least (suc x) xs = omega (arith, leaves.counted (suc x), none) in
          let inner = shifted-agree (λ i. count_behind (x ∷ before) os i) (ways n (at_least (suc x) rest)) l (λ i. each (suc x) (x ∷ before) i (bound_raised bound before x b reached.1)) in
          let to : rank_term (λ j. shifted (ways n j) l) (ways n (at_least bound xs) l) bound xs x ≡ shifted (ways n (at_least (suc x) xs)) l =
          ap (λ (t : Bool). cond t (shifted (ways n (at_least (suc x) xs)) l) (ways n (at_least bound xs) l)) reached.0 in
          chosen ∙ up ∙ count_raised m os l ∙ inner ∙ ap (λ (t : ℕ). shifted (ways n t) l) same ∙ sym to
      | inr missed ↦
          let kept : count_by (λ others. eqb (cond (leb bound x) (suc (m others)) (m others)) l) os ≡ count_by (λ others. eqb (m others) l) os =
          ap (λ (t : Bool). count_by (λ others. eqb (cond t (suc (m others)) (m others)) l) os) missed.0 in
          let none : ◌≡◌ {A = ℕ} (cond (leb bound x) 1 0) 0 = ap (λ (t : Bool). cond {A = ℕ} t 1 0) missed.0 in
          let same : at_least bound rest ≡ at_least bound xs = omega (arith, leaves.counted bound, none) in
          let to : rank_term (λ j. shifted (ways n j) l) (ways n (at_least bound xs) l) bound xs x ≡ ways n (at_least bound xs) l =
          ap (λ (t : Bool). cond t (shifted (ways n (at_least (suc x) xs)) l) (ways n (at_least bound xs) l)) missed.0 in
          chosen ∙ kept ∙ each bound (x ∷ before) l (bound_kept bound before x b missed.1) ∙ ap (λ (t : ℕ). ways n t l) same ∙ sym to
    ]

pub counted : (n : ℕ) (xs before : List ℕ) (bound low l : ℕ) → length xs ≡ n → Rises low xs → IsBound bound before → count_behind before (orderings_of n xs) l ≡ ways n (at_least bound xs) l
unfolding orderings_of maxima_behind
counted zero xs before bound low l size up b = omega (arith, ways-zero (at_least bound xs) l)
counted (suc n) xs before bound low l size up b =
    let term = λ (ordering : List ℕ). cond {A = ℕ} (eqb (maxima_behind before ordering) l) 1 0 in
    let begun = λ (pick : ℕ × List ℕ). map (λ others. pick.0 ∷ others) (orderings_of n pick.1) in
    let e = ways n (at_least bound xs) l in
    let g = λ (j : ℕ). shifted (ways n j) l in
    let f = λ (x : ℕ) (rest : List ℕ). sum_by term (map (λ others. x ∷ others) (orderings_of n rest)) in
    let split : sum_by term (flat_map begun (picks xs)) ≡ sum_by (λ pick. f pick.0 pick.1) (picks xs) = sum_by-flat_map term begun (picks xs) in
    let each : (x : ℕ) (rest : List ℕ) → Leaves xs x rest → f x rest ≡ rank_term g e bound xs x =
    λ x rest leaves. sum_by-map term (λ others. x ∷ others) (orderings_of n rest)
    ∙ first_counted n bound before xs l x rest b leaves (λ raised behind i r. counted n rest behind raised low i (omega (arith, leaves.shorter, size)) (leaves.rising low up) r) in
    split ∙ sum_by-picks f (rank_term g e bound xs) xs each ∙ sum_by-rank g e bound low xs up
    ∙ ap (λ (t : ℕ). (t - at_least bound xs) * e + sum_below g (at_least bound xs)) size
    ∙ sym (ways-suc n (at_least bound xs) l)
