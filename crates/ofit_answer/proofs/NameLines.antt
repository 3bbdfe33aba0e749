-- Lines with the names of groups, which are found by their places.
use Rattle.std.proofs.Common.{◌≡◌, ℕ, ◌<◌, List, [], ◌++◌, length, sym, ap, ap₂, subst, ◌∙◌, append_assoc}
use Rattle.std.proofs.lemmas.List.{get_or-map}
use Rattle.std.proofs.lemmas.Option.{get_or_from_slice_get}
use Rattle.std.specs.Prelude.{Contains, slice_get, Some, codes, decimal}
use Rattle.ofit_study.specs.Kept.{name_at}
use Rattle.ofit_study.specs.Study.{Study, IsValid, names_of, places_of, place_among}
use Rattle.ofit_study.proofs.Stating.{name_at-place}
use Rattle.ofit_answer.specs.VerdictText.{group_fault, group_text, pair_names, pair_fault}
use Rattle.ofit_answer.specs.PeakVerdictText.{side_fault}

pub name_joined : (fault : List ℕ) (s : Study) (place : ℕ) (words name text : List ℕ) → words ≡ fault → slice_get (names_of s) place ≡ Some name
    → text ≡ codes "fails " ++ (words ++ (codes " " ++ (name ++ codes "\n"))) → text ≡ group_fault fault s place
name_joined fault s place words name text same at_place e =
    e ∙ joined words name
    ∙ ap₂ (λ (a b : List ℕ). codes "fails " ++ a ++ codes " " ++ b ++ codes "\n") same (sym (get_or_from_slice_get (names_of s) place name [] at_place))
  where
    joined : (a b : List ℕ) → codes "fails " ++ (a ++ (codes " " ++ (b ++ codes "\n"))) ≡ codes "fails " ++ a ++ codes " " ++ b ++ codes "\n"
    joined a b = simp append_assoc

pub side_joined : (fault : List ℕ) (number : ℕ) (s : Study) (place : ℕ) (words digits name text : List ℕ) → words ≡ fault → digits ≡ decimal number → slice_get (names_of s) place ≡ Some name
    → text ≡ codes "fails " ++ (words ++ (codes " " ++ (digits ++ (codes " " ++ (name ++ codes "\n"))))) → text ≡ side_fault fault number s place
side_joined fault number s place words digits name text same spelled at_place e =
    e ∙ ap₂ (λ (a b : List ℕ). codes "fails " ++ (a ++ (codes " " ++ (b ++ (codes " " ++ (name ++ codes "\n")))))) same spelled
    ∙ ap (λ (c : List ℕ). codes "fails " ++ (fault ++ (codes " " ++ (decimal number ++ (codes " " ++ (c ++ codes "\n")))))) (sym (get_or_from_slice_get (names_of s) place name [] at_place))
    ∙ joined fault (decimal number) (group_text s place)
  where
    joined : (a b c : List ℕ) → codes "fails " ++ (a ++ (codes " " ++ (b ++ (codes " " ++ (c ++ codes "\n"))))) ≡ codes "fails " ++ a ++ codes " " ++ b ++ codes " " ++ c ++ codes "\n"
    joined a b c = simp append_assoc

-- a pair
module _ (s : Study) (v : IsValid s) (k : ℕ) (l : k < length s.pairs) (p : ℕ × ℕ) (e : slice_get (places_of s) k ≡ Some p) where
  known : Contains (names_of s) (pair_names s k).0 × Contains (names_of s) (pair_names s k).1
  known = v.known k ([], []) l

  are_places : (place_among (names_of s) (pair_names s k).0, place_among (names_of s) (pair_names s k).1) ≡ p
  are_places = sym (get_or-map (λ (q : List ℕ × List ℕ). (place_among (names_of s) q.0, place_among (names_of s) q.1)) s.pairs k ([], []) (0, 0) l) ∙ get_or_from_slice_get (places_of s) k p (0, 0) e

  pub low_inside : p.0 < length (names_of s)
  low_inside = subst (λ (t : ℕ × ℕ). t.0 < length (names_of s)) are_places (name_at-place (names_of s) (pair_names s k).0 known.0).0

  pub high_inside : p.1 < length (names_of s)
  high_inside = subst (λ (t : ℕ × ℕ). t.1 < length (names_of s)) are_places (name_at-place (names_of s) (pair_names s k).1 known.1).0

  low_name : (x : List ℕ) → slice_get (names_of s) p.0 ≡ Some x → x ≡ (pair_names s k).0
  low_name x found =
      sym (get_or_from_slice_get (names_of s) p.0 x [] found) ∙ ap (λ (t : ℕ × ℕ). name_at (names_of s) t.0) (sym are_places) ∙ (name_at-place (names_of s) (pair_names s k).0 known.0).1

  high_name : (x : List ℕ) → slice_get (names_of s) p.1 ≡ Some x → x ≡ (pair_names s k).1
  high_name x found =
      sym (get_or_from_slice_get (names_of s) p.1 x [] found) ∙ ap (λ (t : ℕ × ℕ). name_at (names_of s) t.1) (sym are_places) ∙ (name_at-place (names_of s) (pair_names s k).1 known.1).1

  pub names_joined : (low high text : List ℕ) → slice_get (names_of s) p.0 ≡ Some low → slice_get (names_of s) p.1 ≡ Some high
      → text ≡ codes "fails order " ++ (low ++ (codes " " ++ (high ++ codes "\n"))) → text ≡ pair_fault s k
  names_joined low high text at_low at_high e =
      e ∙ ap₂ (λ (a b : List ℕ). codes "fails order " ++ (a ++ (codes " " ++ (b ++ codes "\n")))) (low_name low at_low) (high_name high at_high)
      ∙ joined (pair_names s k).0 (pair_names s k).1
    where
      joined : (a b : List ℕ) → codes "fails order " ++ (a ++ (codes " " ++ (b ++ codes "\n"))) ≡ codes "fails order " ++ a ++ codes " " ++ b ++ codes "\n"
      joined a b = simp append_assoc
