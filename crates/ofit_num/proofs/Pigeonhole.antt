-- Distinct members of a list are no more than it has.
use Rattle.std.proofs.Common.{◌≡◌, ◌≢◌, ◌≤◌, ◌⊎◌, ◌++◌, List, [], ◌∷◌, length, inl, inr, refl, ap, subst, arith}
use Rattle.std.specs.Prelude.{All, AllPairs, Contains}
use Rattle.std.proofs.lemmas.List.{length-append}
use Rattle.std.proofs.lemmas.List.Elements.{All-contains, Contains-append_cases, Contains-append_left, Contains-append_right}
use Rattle.ofit_num.proofs.Sheets.{AllPairs-head, AllPairs-tail}
use Rattle.ofit_num.proofs.Members.{cons_cases, Contains-cons}

-- a list about one of its members
record Around (X : Type 0) (ys : List X) (x : X) : Type 0 where
  left : List X
  right : List X
  same : ys ≡ left ++ x ∷ right

around : {X : Type 0} (ys : List X) (x : X) → Contains ys x → Around X ys x
around [] x (k, l, e) = absurd (omega (arith, l))
around {X} (y ∷ ys) x h = by (cons_cases ys y x h) (around ys x) where
  by : (y ≡ x) ⊎ Contains ys x → (Contains ys x → Around X ys x) → Around X (y ∷ ys) x
  by (inl e) rest = record { left = []; right = ys; same = ap (λ (t : X). t ∷ ys) e }
  by (inr k) rest = let r = rest k in record { left = y ∷ r.left; right = r.right; same = ap (λ (t : List X). y ∷ t) r.same }

without : {X : Type 0} (left right : List X) (x z : X) → x ≢ z → Contains (left ++ x ∷ right) z → Contains (left ++ right) z
without {X} left right x z apart h = by (Contains-append_cases left (x ∷ right) z h) where
  later : (x ≡ z) ⊎ Contains right z → Contains (left ++ right) z
  later (inl e) = absurd (apart e)
  later (inr k) = Contains-append_right left right z k

  by : Contains left z ⊎ Contains (x ∷ right) z → Contains (left ++ right) z
  by (inl k) = Contains-append_left left right z k
  by (inr k) = later (cons_cases right x z k)

pub distinct_few : {X : Type 0} (xs ys : List X) → AllPairs (λ a b. a ≢ b) xs → ((x : X) → Contains xs x → Contains ys x) → length xs ≤ length ys
distinct_few [] ys apart among = omega arith
distinct_few {X} (x ∷ xs) ys apart among =
    let a = around ys x (among x (0, omega arith, refl)) in
    let others : All (λ b. x ≢ b) xs = AllPairs-head (λ a b. a ≢ b) x xs apart in
    let rest : length xs ≤ length (a.left ++ a.right) = distinct_few xs (a.left ++ a.right) (AllPairs-tail (λ a b. a ≢ b) x xs apart)
    (λ z h. without a.left a.right x z (All-contains (λ b. x ≢ b) xs z others h) (subst (λ (t : List X). Contains t z) a.same (among z (Contains-cons x xs z h)))) in
    omega (arith, rest, length-append a.left a.right, length-append a.left (x ∷ a.right), ap length a.same)
