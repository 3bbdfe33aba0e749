-- The links of a chain lead from its lowest member through all others.
use Rattle.std.proofs.Common.{◌≡◌, ◌≢◌, ℕ, zero, suc, ◌+◌, ◌<◌, ◌≤◌, refl, sym, ap, subst, ◌∙◌, arith, inl, inr, Bool, true, false, cond, List, [], ◌∷◌, length, map, drop, slice_index, ◌↔◌}
use Rattle.std.proofs.lemmas.Bool.{cases_order}
use Rattle.std.proofs.lemmas.List.{drop_more, length-drop, length-map, get_or_default}
use Rattle.std.specs.Prelude.{Option, Some, None, All, AllPairs}
use Rattle.std.specs.List.{Contains}
use Rattle.ofit_num.specs.Fit.{sum_below}
use Rattle.ofit_num.proofs.Sums.{sum_below-same}
use Rattle.ofit_order.specs.Connection.{LeadsUp}
use Rattle.ofit_order.specs.Shape.{LeadsDown, Follows, IsChainOf}
use Rattle.ofit_fit.specs.Part.{position_among}
use Rattle.ofit_fit.specs.Links.{IsLink, IsLinkWithin, AreLinks, IsPathFrom, link_at}
use Rattle.ofit_fit.proofs.Places.{is_in, in_from, in_to, out_to, HasPlace, IsDistinct, sum_picked}
use Rattle.ofit_fit.proofs.Closed.{place_from_contains, contains_from_place, position_at}

-- Two lists of the same places, each once, are as long.
ones : (n : ℕ) → sum_below (λ i. 1) n ≡ n
ones zero = refl
ones (suc n) = omega (arith, ones n)

most : (xs : List ℕ) → (n : ℕ) × ((i : ℕ) → i < length xs → slice_index xs i < n)
most [] = (0, λ i l. absurd (omega (arith, l)))
most (x ∷ xs) = (suc (x + (most xs).0), λ i l. at i (most xs).0 l (most xs).1) where
  at : (i n : ℕ) → i < length (x ∷ xs) → ((k : ℕ) → k < length xs → slice_index xs k < n) → slice_index (x ∷ xs) i < suc (x + n)
  at zero n l h = omega arith
  at (suc i) n l h = omega (arith, h i (omega arith))

pub same_count : (xs ys : List ℕ) → IsDistinct (slice_index xs) (length xs) → IsDistinct (slice_index ys) (length ys) → ((p : ℕ) → Contains xs p ↔ Contains ys p) → length xs ≡ length ys
same_count xs ys dx dy same =
    sym (ones (length xs)) ∙ sym (sum_picked (slice_index xs) n (length xs) (λ g. 1) (most xs).1 dx)
    ∙ sum_below-same _ _ n (λ g l. ap (λ (b : Bool). cond b 1 0) (alike g))
    ∙ sum_picked (slice_index ys) n (length ys) (λ g. 1) (λ i l. to i l) dy ∙ ones (length ys)
  where
    n : ℕ
    n = (most xs).0

    to : (i : ℕ) → i < length ys → slice_index ys i < (most xs).0
    to i l =
        let x : HasPlace (slice_index xs) (length xs) (slice_index ys i) = place_from_contains xs (slice_index ys i) ((same (slice_index ys i)).1 (contains_from_place ys (slice_index ys i) (i, l, refl))) in
        omega (arith, (most xs).1 x.0 x.1, x.2)

    alike : (g : ℕ) → is_in (slice_index xs) (length xs) g ≡ is_in (slice_index ys) (length ys) g
    alike g = go (is_in (slice_index xs) (length xs) g) refl where
      go : (b : Bool) → is_in (slice_index xs) (length xs) g ≡ b → is_in (slice_index xs) (length xs) g ≡ is_in (slice_index ys) (length ys) g
      go true e = e ∙ sym (in_to (slice_index ys) (length ys) g (place_from_contains ys g ((same g).0 (contains_from_place xs g (in_from (slice_index xs) (length xs) g e)))))
      go false e = e ∙ sym (out_to (slice_index ys) (length ys) g (λ p. none (in_to (slice_index xs) (length xs) g (place_from_contains xs g ((same g).1 (contains_from_place ys g p))))))
        where
          none : is_in (slice_index xs) (length xs) g ≡ true → ⊥
          none t = cc

distinct_list : (list : List ℕ) → AllPairs (λ a b. a ≢ b) list → IsDistinct (slice_index list) (length list)
distinct_list list differ i j l m e = elim (cases_order i j) [
  | inl same ↦ same
  | inr o ↦ elim o [ inl b ↦ absurd (differ i j 0 b m e) | inr b ↦ absurd (differ j i 0 b l (sym e)) ]
]

module _ (pairs : List (ℕ × ℕ)) (members list : List ℕ) (distinct : IsDistinct (slice_index members) (length members)) (chain : IsChainOf pairs members list) where
  pub once : IsDistinct (slice_index list) (length list)
  once = distinct_list list chain.distinct

  pub as_many : length list ≡ length members
  as_many = same_count list members once distinct chain.same

  -- the position of each place of the list
  pub place : (k : ℕ) → k < length list → HasPlace (slice_index members) (length members) (slice_index list k)
  place k l = place_from_contains members (slice_index list k) ((chain.same (slice_index list k)).0 (contains_from_place list (slice_index list k) (k, l, refl)))

  pub position_back : (k : ℕ) → k < length list → slice_index members (position_among members (slice_index list k)) ≡ slice_index list k
  position_back k l = ap (slice_index members) (position_at members distinct (slice_index list k) (place k l)) ∙ (place k l).2

  pub position_below : (k : ℕ) → k < length list → position_among members (slice_index list k) < length members
  position_below k l = omega (arith, position_at members distinct (slice_index list k) (place k l), (place k l).1)

  pub leads_next : (k : ℕ) → k + 1 < length list → LeadsUp pairs (slice_index list k) (slice_index list (k + 1))
  leads_next k l = (chain.neighbours _ _ ((chain.same _).0 (contains_from_place list _ (k, omega (arith, l), refl)))).1 (k, l, refl, refl)

  -- what a pair leads up to from the place at k
  pub leads_only : (k b : ℕ) → k < length list → LeadsUp pairs (slice_index list k) b → (k + 1 < length list) × (slice_index list (k + 1) ≡ b)
  leads_only k b l h =
      let f : Follows list (slice_index list k) b = (chain.neighbours _ _ ((chain.same _).0 (contains_from_place list _ (k, l, refl)))).0 h in
      let same : f.0 ≡ k = once f.0 k (omega (arith, f.1)) l f.2 in
      (omega (arith, same, f.1), ap (λ (n : ℕ). slice_index list (n + 1)) (sym same) ∙ f.3)

  -- no pair leads up to the first place
  pub none_below : (b : ℕ) → LeadsUp pairs b (slice_index list 0) → Contains members b → ⊥
  none_below b h c =
      let f : Follows list b (slice_index list 0) = (chain.neighbours _ _ c).0 h in
      omega (arith, once (f.0 + 1) 0 f.1 (omega (arith, f.1)) f.3)

  module _ (ups : List (Option ℕ)) (links : AreLinks (LeadsUp pairs) members ups) where
    -- where the list goes on after k places
    record GoesOn (k : ℕ) (next : Option ℕ) : Type 0 where
      more : k < length list → next ≡ Some (position_among members (slice_index list k))
      end : length list ≤ k → next ≡ None

    goes_on : (k : ℕ) → k < length list → GoesOn (k + 1) (link_at ups (position_among members (slice_index list k)))
    goes_on k l = at (link_at ups p) refl (subst (λ (g : ℕ). IsLink (LeadsUp pairs) members g (link_at ups p)) (position_back k l) (links.each p (position_below k l))) where
      p : ℕ
      p = position_among members (slice_index list k)

      at : (o : Option ℕ) → link_at ups (position_among members (slice_index list k)) ≡ o → IsLink (LeadsUp pairs) members (slice_index list k) o → GoesOn (k + 1) (link_at ups (position_among members (slice_index list k)))
      at None e none = record { more = λ b. absurd (none (slice_index list (k + 1)) (leads_next k b)); end = λ b. e }
      at (Some j) e to =
          let only : (k + 1 < length list) × (slice_index list (k + 1) ≡ slice_index members j) = leads_only k (slice_index members j) l to.1 in
          record {
            more = λ b. e ∙ ap (λ (n : ℕ). Some n) (sym (position_at members distinct (slice_index list (k + 1)) (j, to.0, sym only.1)));
            end = λ b. absurd (omega (arith, b, only.0));
          }

    path_from : (rest : List ℕ) (k : ℕ) (next : Option ℕ) → drop k list ≡ rest → GoesOn k next → IsPathFrom ups next (map (position_among members) rest)
    path_from [] k next e on = on.end (omega (arith, ap length e, length-drop k list))
    path_from (x ∷ rest) k next e on = go (omega (arith, ap length e, length-drop k list)) (λ after f more. path_from rest (k + 1) after f more) where
      go : k < length list → ((after : Option ℕ) → drop (k + 1) list ≡ rest → GoesOn (k + 1) after → IsPathFrom ups after (map (position_among members) rest)) → IsPathFrom ups next (map (position_among members) (x ∷ rest))
      go l later =
          let split : drop k list ≡ slice_index list k ∷ drop (k + 1) list = drop_more list k 0 l in
          let head : slice_index list k ≡ x = cc in
          let tail : drop (k + 1) list ≡ rest = cc in (
            on.more l ∙ ap (λ (g : ℕ). Some (position_among members g)) head,
            subst (λ (g : ℕ). IsPathFrom ups (link_at ups (position_among members g)) (map (position_among members) rest)) head (later (link_at ups (position_among members (slice_index list k))) tail (goes_on k l)),
          )

    -- the positions of the list are a path from that of its first place
    pub whole_path : 0 < length list → IsPathFrom ups (Some (position_among members (slice_index list 0))) (map (position_among members) list)
    whole_path l = path_from list 0 (Some (position_among members (slice_index list 0))) refl (record { more = λ b. refl; end = λ b. absurd (omega (arith, b, l)) })

  module _ (downs : List (Option ℕ)) (links : AreLinks (LeadsDown pairs) members downs) where
    first_free : 0 < length list → (o : Option ℕ) → IsLink (LeadsDown pairs) members (slice_index list 0) o → o ≡ None
    first_free l None h = refl
    first_free l (Some j) h = absurd (none_below (slice_index members j) h.1 (contains_from_place members _ (j, h.0, refl)))

    -- the lowest member has no link down
    pub some_free : 0 < length members → (i : ℕ) × (i < length downs) × (link_at downs i ≡ None)
    some_free some =
        let l : 0 < length list = omega (arith, as_many, some) in
        let p : ℕ = position_among members (slice_index list 0) in (
          p,
          omega (arith, links.count, position_below 0 l),
          first_free l (link_at downs p) (subst (λ (g : ℕ). IsLink (LeadsDown pairs) members g (link_at downs p)) (position_back 0 l) (links.each p (position_below 0 l))),
        )

    -- and no other member has none
    pub free_is_first : (p : ℕ) → p < length members → link_at downs p ≡ None → p ≡ position_among members (slice_index list 0)
    free_is_first p l e = go x.0 x.1 x.2 where
      x : HasPlace (slice_index list) (length list) (slice_index members p)
      x = place_from_contains list (slice_index members p) ((chain.same (slice_index members p)).1 (contains_from_place members (slice_index members p) (p, l, refl)))

      none : (b : ℕ) → LeadsUp pairs b (slice_index members p) → ⊥
      none = subst (IsLink (LeadsDown pairs) members (slice_index members p)) e (links.each p l)

      go : (k : ℕ) → k < length list → slice_index list k ≡ slice_index members p → p ≡ position_among members (slice_index list 0)
      go zero b f = sym (ap (position_among members) f ∙ position_at members distinct (slice_index members p) (p, l, refl))
      go (suc k) b f =
          let step : k + 1 ≡ suc k = omega arith in
          absurd (none (slice_index list k) (subst (LeadsUp pairs (slice_index list k)) (ap (slice_index list) step ∙ f) (leads_next k (omega (arith, b)))))

-- links lead to members
pub links_within : (Step : ℕ → ℕ → Type 0) (members : List ℕ) (links : List (Option ℕ)) → AreLinks Step members links → All (IsLinkWithin (length links)) links
links_within Step members links are k d l =
    subst (IsLinkWithin (length links)) (get_or_default links k None d l) (go (link_at links k) (are.each k (omega (arith, are.count, l))))
  where
    go : (o : Option ℕ) → IsLink Step members (slice_index members k) o → IsLinkWithin (length links) o
    go None h = tt
    go (Some j) h = omega (arith, are.count, h.0)

-- The path that is followed from the lowest member has the positions of the whole list.
pub followed_path : (pairs : List (ℕ × ℕ)) (members list ups_path : List ℕ) (distinct : IsDistinct (slice_index members) (length members)) (chain : IsChainOf pairs members list) (ups downs : List (Option ℕ)) → AreLinks (LeadsUp pairs) members ups → AreLinks (LeadsDown pairs) members downs
    → 0 < length members → (start : ℕ) → start < length downs → link_at downs start ≡ None → ((whole : List ℕ) → length whole ≤ length ups → IsPathFrom ups (Some start) whole → ups_path ≡ whole) → ups_path ≡ map (position_among members) list
followed_path pairs members list ups_path distinct chain ups downs up down some start l free follows =
    let many : length list ≡ length members = as_many pairs members list distinct chain in
    let first : start ≡ position_among members (slice_index list 0) = free_is_first pairs members list distinct chain downs down start (omega (arith, down.count, l)) free in
    follows (map (position_among members) list) (omega (arith, length-map list (position_among members), many, up.count))
    (subst (λ (p : ℕ). IsPathFrom ups (Some p) (map (position_among members) list)) (sym first) (whole_path pairs members list distinct chain ups up (omega (arith, many, some))))
