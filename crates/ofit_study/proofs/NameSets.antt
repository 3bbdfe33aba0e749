-- what a set of names says of a name
use Rattle.std.proofs.Common.{◌≡◌, ◌≢◌, ℕ, ◌<◌, List, [], ◌∷◌, ◌++◌, refl, sym, ap, ◌∙◌, subst, arith, length, Bool, true, false, Some, cond, nat_lt, get_or}
use Rattle.std.proofs.lemmas.Slice.Eq.{bytes_eq-Decides}
use Rattle.std.proofs.lemmas.Bool.{ltb-true}
use Rattle.std.proofs.lemmas.List.{length-map, map-append, get_or-map}
use Rattle.std.proofs.lemmas.List.Elements.{All-nil, All-cons, All-head, All-tail}
use Rattle.std.proofs.lemmas.List.Sums.{passes_at_first}
use Rattle.std.proofs.lemmas.Option.{slice_get-get_or, cond_some}
use Rattle.std.specs.Prelude.{map, All, Vec, ◌||◌, slice_get}
use Rattle.std.specs.List.{list_any, position, position_or_len}
use Rattle.std.specs.Str.{bytes_eq}
use Rattle.std.specs.declared.alloc.Global.{Global}

abbrev Names : Type 0
Names = List (Vec ℕ Global)

abbrev pub is_it : List ℕ → Vec ℕ Global → Bool
is_it q y = bytes_eq q y.items

neither : (a b : Bool) → (a || b) ≡ false → (a ≡ false) × (b ≡ false)
neither true b e = cc
neither false b e = (refl, e)

differs : (q x : List ℕ) → bytes_eq q x ≡ false → x ≢ q
differs q x f same =
    let yes : bytes_eq q x ≡ true = (bytes_eq-Decides q x).1 (sym same) in
    cc

pub new_name : (q : List ℕ) (names : Names) → list_any (is_it q) names ≡ false → All (λ known. known ≢ q) (map (λ v. v.items) names)
new_name q [] e = All-nil (λ known. known ≢ q)
new_name q (v ∷ names) e =
    let no = neither (bytes_eq q v.items) (list_any (is_it q) names) e in
    All-cons (λ known. known ≢ q) v.items (map (λ w. w.items) names) (differs q v.items no.0) (new_name q names no.1)

none_is : (q : List ℕ) (names : Names) → All (λ known. known ≢ q) (map (λ v. v.items) names) → list_any (is_it q) names ≡ false
none_is q [] h = refl
none_is q (v ∷ names) h = go (bytes_eq q v.items) refl (none_is q names (All-tail (λ known. known ≢ q) v.items (map (λ w. w.items) names) h)) where
  go : (t : Bool) → bytes_eq q v.items ≡ t → list_any (is_it q) names ≡ false → (bytes_eq q v.items || list_any (is_it q) names) ≡ false
  go true e rest = absurd (All-head (λ known. known ≢ q) v.items (map (λ w. w.items) names) h (sym ((bytes_eq-Decides q v.items).0 e)))
  go false e rest = ap (λ (s : Bool). s || list_any (is_it q) names) e ∙ rest

-- a new name goes last
pub names-put : (v : Vec ℕ Global) (names : Names) → All (λ known. known ≢ v.items) (map (λ w. w.items) names)
    → map (λ w. w.items) (cond (list_any (is_it v.items) names) names (names ++ v ∷ [])) ≡ map (λ w. w.items) names ++ v.items ∷ []
names-put v names h = ap (λ (t : Bool). map (λ w. w.items) (cond t names (names ++ v ∷ []))) (none_is v.items names h) ∙ map-append (λ w. w.items) names (v ∷ [])

-- the place that is found has the name
pub name_at_place : (q : List ℕ) (names : Names) (p : ℕ) → Some p ≡ position (is_it q) names → slice_get (map (λ v. v.items) names) p ≡ Some q
name_at_place q [] p e = cc
name_at_place q (v ∷ names) p e =
    let found = cond_some (nat_lt (position_or_len (is_it q) (v ∷ names)) (length (v ∷ names))) (position_or_len (is_it q) (v ∷ names)) p (sym e) in
    let inside : position_or_len (is_it q) (v ∷ names) < length (v ∷ names) = ltb-true _ _ found.0 in
    let passes = passes_at_first (is_it q) (v ∷ names) v inside in
    let here : get_or (map (λ w. w.items) (v ∷ names)) p q ≡ q = get_or-map (λ w. w.items) (v ∷ names) p v q (subst (λ (n : ℕ). n < length (v ∷ names)) found.1 inside) ∙ sym ((bytes_eq-Decides q (get_or (v ∷ names) p v).items).0 (subst (λ (n : ℕ). is_it q (get_or (v ∷ names) n v) ≡ true) found.1 passes)) in
    slice_get-get_or (map (λ w. w.items) (v ∷ names)) p q (subst (λ (n : ℕ). n < length (map (λ w. w.items) (v ∷ names))) found.1 (omega (arith, length-map names (λ w. w.items)))) ∙ ap Some here
