-- A study has pairs of places in one way.
use Rattle.std.proofs.Common.{◌≡◌, ◌∙◌, ℕ, List, map, sym, ap, subst}
use Rattle.std.specs.Prelude.{All, Contains}
use Rattle.std.proofs.lemmas.List.Elements.{All-contains}
use Rattle.ofit_study.specs.Kept.{name_at}
use Rattle.ofit_study.specs.Study.{HasPairs, Study, names_of, place_among, places_of}
use Rattle.ofit_study.proofs.PairOrder.{ordered_one}
use Rattle.ofit_study.proofs.Stating.{name_at-place}
use Rattle.ofit_num.proofs.Members.{from_map, in_map}

-- the places of a pair of names
abbrev placed : List (List ℕ) → List ℕ × List ℕ → ℕ × ℕ
placed names e = (place_among names e.0, place_among names e.1)

abbrev AreKnown : List (List ℕ) → List ℕ × List ℕ → Type 0
AreKnown names e = Contains names e.0 × Contains names e.1

module _ (names : List (List ℕ)) where
  name_one : (a b : List ℕ) → Contains names a → Contains names b → place_among names a ≡ place_among names b → a ≡ b
  name_one a b h k e = sym (name_at-place names a h).1 ∙ ap (name_at names) e ∙ (name_at-place names b k).1

  member : (s t : List (List ℕ × List ℕ)) → All (AreKnown names) s → All (AreKnown names) t → ((p : ℕ × ℕ) → Contains (map (placed names) s) p → Contains (map (placed names) t) p) → (e : List ℕ × List ℕ) → Contains s e → Contains t e
  member s t h k on e c =
      let f = from_map (placed names) t (placed names e) (on (placed names e) (in_map (placed names) s e c)) in
      let here : AreKnown names e = All-contains (AreKnown names) s e h c in
      let there : AreKnown names f.0 = All-contains (AreKnown names) t f.0 k f.1 in
      let low : f.0.0 ≡ e.0 = name_one f.0.0 e.0 there.0 here.0 (ap (λ (p : ℕ × ℕ). p.0) f.2) in
      let high : f.0.1 ≡ e.1 = name_one f.0.1 e.1 there.1 here.1 (ap (λ (p : ℕ × ℕ). p.1) f.2) in
      let same : f.0 ≡ e = (λ i. (low i, high i)) in
      subst (Contains t) same f.1

known_in : (names others : List (List ℕ)) (pairs : List (List ℕ × List ℕ)) → others ≡ names → All (λ e. Contains others e.0 × Contains others e.1) pairs → All (AreKnown names) pairs
known_in names others pairs e h = subst (λ (t : List (List ℕ)). All (AreKnown t) pairs) e h

pub paired_one : (study : Study) (places : List (ℕ × ℕ)) (s t : Study) → HasPairs study places s → HasPairs study places t → s ≡ t
paired_one study places s t h k =
    let names = names_of study in
    let of_s : names_of s ≡ names = ap (λ (u : Study). names_of u) h.others in
    let of_t : names_of t ≡ names = ap (λ (u : Study). names_of u) k.others in
    let at_s : places_of s ≡ map (placed names) s.pairs = ap (λ (u : List (List ℕ)). map (placed u) s.pairs) of_s in
    let at_t : places_of t ≡ map (placed names) t.pairs = ap (λ (u : List (List ℕ)). map (placed u) t.pairs) of_t in
    let known_s = known_in names (names_of s) s.pairs of_s h.known in
    let known_t = known_in names (names_of t) t.pairs of_t k.known in
    let on = member names s.pairs t.pairs known_s known_t (λ p c. subst (λ (u : List (ℕ × ℕ)). Contains u p) at_t ((k.only p).0 ((h.only p).1 (subst (λ (u : List (ℕ × ℕ)). Contains u p) (sym at_s) c)))) in
    let back = member names t.pairs s.pairs known_t known_s (λ p c. subst (λ (u : List (ℕ × ℕ)). Contains u p) at_s ((h.only p).0 ((k.only p).1 (subst (λ (u : List (ℕ × ℕ)). Contains u p) (sym at_t) c)))) in
    let pairs : s.pairs ≡ t.pairs = ordered_one s.pairs t.pairs h.in_order k.in_order on back in
    h.others ∙ ap (λ (u : List (List ℕ × List ℕ)). record study { pairs = u }) pairs ∙ sym k.others
