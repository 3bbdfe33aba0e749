-- Rows of neighbours after one more pair.
use Rattle.std.proofs.Common.{◌≡◌, ℕ, ◌+◌, ◌<◌, ◌⊎◌, inl, inr, List, [], ◌∷◌, ◌++◌, length, set, get_or, take, sym, subst, ap, ◌∙◌, get_or-set_same, get_or-set_other, Vec}
use Rattle.std.specs.List.{Contains}
use Rattle.std.proofs.lemmas.Bool.{cases_eq}
use Rattle.std.proofs.lemmas.List.{take_more, length-set, length-map, get_or-map}
use Rattle.std.proofs.lemmas.List.Elements.{Contains-append_left, Contains-push, Contains-push_cases}
use Rattle.ofit_order.specs.Connection.{Joins}
use Rattle.ofit_order.specs.Rows.{rows_of, row, HasNeighbour, AreNeighbours}

abbrev pub with_place : List (List ℕ) → ℕ → ℕ → List (List ℕ)
with_place rows x y = set rows x (row rows x ++ y ∷ [])

pub row-at : (rows : List (List ℕ)) (x y : ℕ) → x < length rows → row (with_place rows x y) x ≡ row rows x ++ y ∷ []
row-at rows x y l = get_or-set_same rows x (row rows x ++ y ∷ []) [] l

pub row-other : (rows : List (List ℕ)) (x y a : ℕ) → (a ≡ x → ⊥) → row (with_place rows x y) a ≡ row rows a
row-other rows x y a n = get_or-set_other rows x a (row rows x ++ y ∷ []) [] n

pub HasNeighbour-with_place : (rows : List (List ℕ)) (x y a b : ℕ) → x < length rows → HasNeighbour (with_place rows x y) a b → HasNeighbour rows a b ⊎ ((a ≡ x) × (b ≡ y))
HasNeighbour-with_place rows x y a b l h =
    elim (cases_eq a x) [
      | inl e ↦
          let at_x : HasNeighbour (with_place rows x y) x b = subst (λ (t : ℕ). HasNeighbour (with_place rows x y) t b) e h in
          let in_row : Contains (row rows x ++ y ∷ []) b = subst (λ (r : List ℕ). Contains r b) (row-at rows x y l) at_x in
          elim (Contains-push_cases (row rows x) y b in_row) [
            | inl k ↦ inl (subst (λ (t : ℕ). HasNeighbour rows t b) (sym e) k)
            | inr k ↦ inr (e, sym k)
          ]
      | inr n ↦ inl (subst (λ (r : List ℕ). Contains r b) (row-other rows x y a n) h)
    ]

pub HasNeighbour-placed : (rows : List (List ℕ)) (x y : ℕ) → x < length rows → HasNeighbour (with_place rows x y) x y
HasNeighbour-placed rows x y l = subst (λ (r : List ℕ). Contains r y) (sym (row-at rows x y l)) (Contains-push (row rows x) y)

pub HasNeighbour-kept : (rows : List (List ℕ)) (x y a b : ℕ) → x < length rows → HasNeighbour rows a b → HasNeighbour (with_place rows x y) a b
HasNeighbour-kept rows x y a b l h =
    elim (cases_eq a x) [
      | inl e ↦
          let at_x : HasNeighbour rows x b = subst (λ (t : ℕ). HasNeighbour rows t b) e h in
          let in_row : Contains (row rows x ++ y ∷ []) b = Contains-append_left (row rows x) (y ∷ []) b at_x in
          subst (λ (t : ℕ). HasNeighbour (with_place rows x y) t b) (sym e) (subst (λ (r : List ℕ). Contains r b) (sym (row-at rows x y l)) in_row)
      | inr n ↦ subst (λ (r : List ℕ). Contains r b) (sym (row-other rows x y a n)) h
    ]

-- both rows after a pair
abbrev pub linked : List (List ℕ) → ℕ → ℕ → List (List ℕ)
linked rows x y = with_place (with_place rows x y) y x

pair_parts : (x y a b : ℕ) → ◌≡◌ {A = ℕ × ℕ} (x, y) (a, b) → (a ≡ x) × (b ≡ y)
pair_parts x y a b e = (sym (ap (λ (t : ℕ × ℕ). t.0) e), sym (ap (λ (t : ℕ × ℕ). t.1) e))

Contains-pair : (ps : List (ℕ × ℕ)) (x y a b : ℕ) → a ≡ x → b ≡ y → Contains (ps ++ (x, y) ∷ []) (a, b)
Contains-pair ps x y a b e f = rw (e, f) (Contains-push ps (x, y))

-- one more pair
pub AreNeighbours-push : (ps : List (ℕ × ℕ)) (rows : List (List ℕ)) (x y : ℕ) → x < length rows → y < length rows → AreNeighbours ps rows → AreNeighbours (ps ++ (x, y) ∷ []) (linked rows x y)
AreNeighbours-push ps rows x y l m h =
    let longer : y < length (with_place rows x y) = rw (length-set rows x (row rows x ++ y ∷ [])) m in
    let keep : (a b : ℕ) → Joins ps a b → Joins (ps ++ (x, y) ∷ []) a b = λ a b j. elim j [
      | inl k ↦ inl (Contains-append_left ps ((x, y) ∷ []) (a, b) k)
      | inr k ↦ inr (Contains-append_left ps ((x, y) ∷ []) (b, a) k)
    ] in
    let back : (a b : ℕ) → HasNeighbour rows a b → HasNeighbour (linked rows x y) a b =
    λ a b k. HasNeighbour-kept (with_place rows x y) y x a b longer (HasNeighbour-kept rows x y a b l k) in
    record {
      exact = λ a b. (
        (λ k. elim (HasNeighbour-with_place (with_place rows x y) y x a b longer k) [
          | inl k2 ↦ elim (HasNeighbour-with_place rows x y a b l k2) [
            | inl k3 ↦ keep a b ((h.exact a b).0 k3)
            | inr e ↦ inl (Contains-pair ps x y a b e.0 e.1)
          ]
          | inr e ↦ inr (Contains-pair ps x y b a e.1 e.0)
        ]),
        (λ j. elim j [
          | inl k ↦ elim (Contains-push_cases ps (x, y) (a, b) k) [
            | inl k2 ↦ back a b ((h.exact a b).1 (inl k2))
            | inr e ↦
                let p = pair_parts x y a b e in
                rw (p.0, p.1) (HasNeighbour-kept (with_place rows x y) y x x y longer (HasNeighbour-placed rows x y l))
          ]
          | inr k ↦ elim (Contains-push_cases ps (x, y) (b, a) k) [
            | inl k2 ↦ back a b ((h.exact a b).1 (inr k2))
            | inr e ↦
                let p = pair_parts x y b a e in
                rw (p.0, p.1) (HasNeighbour-placed (with_place rows x y) y x longer)
          ]
        ]),
      );
    }

-- a loop's step
pub AreNeighbours-more : (ps : List (ℕ × ℕ)) (i : ℕ) (d : ℕ × ℕ) (rows rows' rows'' : List (List ℕ)) → i < length ps → (get_or ps i d).0 < length rows → (get_or ps i d).1 < length rows → rows' ≡ with_place rows (get_or ps i d).0 (get_or ps i d).1 → rows'' ≡ with_place rows' (get_or ps i d).1 (get_or ps i d).0 → AreNeighbours (take i ps) rows → AreNeighbours (take (i + 1) ps) rows''
AreNeighbours-more ps i d rows rows' rows'' l m n e f h =
    let p = get_or ps i d in
    let both : rows'' ≡ linked rows p.0 p.1 = f ∙ ap (λ (t : List (List ℕ)). with_place t p.1 p.0) e in
    rw (take_more ps i d l, both) (AreNeighbours-push (take i ps) rows p.0 p.1 m n h)

pub length-rows_of : {Z : Type 0} (rows : List (Vec ℕ Z)) → length (rows_of rows) ≡ length rows
length-rows_of {Z} rows = length-map rows (λ (r : Vec ℕ Z). r.items)

-- the row that an index reads
pub row_read : {Z : Type 0} (rows : List (Vec ℕ Z)) (p : ℕ) (v : Vec ℕ Z) → p < length rows → v ≡ get_or rows p v → row (rows_of rows) p ≡ v.items
row_read {Z} rows p v l e = get_or-map (λ (r : Vec ℕ Z). r.items) rows p v [] l ∙ ap (λ (r : Vec ℕ Z). r.items) (sym e)
