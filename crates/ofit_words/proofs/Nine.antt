-- at most nine settings are fine, since each sets a key of its own
use Rattle.std.proofs.Common.{◌≡◌, ℕ, zero, suc, ◌<◌, ◌≤◌, List, [], ◌∷◌, ◌++◌, length, refl, sym, ap, ◌∙◌, subst, append_assoc, arith, inl, inr}
use Rattle.std.proofs.Math.Dec.{eqb}
use Rattle.std.proofs.lemmas.Bool.Decides.{eqb_tells}
use Rattle.std.proofs.lemmas.Map.Steps.{length-le_from_distinct_below}
use Rattle.std.specs.Prelude.{Bool, true, false, ◌||◌}
use Rattle.std.specs.List.{AllByRecursion, IsDistinct, list_any}
use Rattle.ofit_words.specs.declared.command.Command.{Command}
use Rattle.ofit_words.specs.declared.command.Command.TheVariants.{Fit, Report, Verify, Session, Unimodal, VerifyUnimodal, Levels, Sample}
use Rattle.ofit_words.specs.declared.key.Key.{Key}
use Rattle.ofit_words.specs.declared.key.Key.TheVariants.{Order, Loss, Places, Lo, Hi, Seed, Groups, Rows, Shape}
use Rattle.ofit_words.specs.Commands.{Sets, name_count}
use Rattle.ofit_words.specs.Given.{NoneSets, AreFine}
use Rattle.ofit_words.proofs.Settled.{not_true, not_false}

abbrev number : Key → ℕ
number Order = 0
number Loss = 1
number Places = 2
number Lo = 3
number Hi = 4
number Seed = 5
number Groups = 6
number Rows = 7
number Shape = 8

abbrev key_at : ℕ → Key
key_at zero = Order
key_at (suc zero) = Loss
key_at (suc (suc zero)) = Places
key_at (suc (suc (suc zero))) = Lo
key_at (suc (suc (suc (suc zero)))) = Hi
key_at (suc (suc (suc (suc (suc zero))))) = Seed
key_at (suc (suc (suc (suc (suc (suc zero)))))) = Groups
key_at (suc (suc (suc (suc (suc (suc (suc zero))))))) = Rows
key_at (suc (suc (suc (suc (suc (suc (suc (suc n)))))))) = Shape

back : (k : Key) → key_at (number k) ≡ k
back Order = refl
back Loss = refl
back Places = refl
back Lo = refl
back Hi = refl
back Seed = refl
back Groups = refl
back Rows = refl
back Shape = refl

below : (k : Key) → number k < 9
below Order = omega arith
below Loss = omega arith
below Places = omega arith
below Lo = omega arith
below Hi = omega arith
below Seed = omega arith
below Groups = omega arith
below Rows = omega arith
below Shape = omega arith

abbrev numbers : (c : Command) (p g : ℕ) (before words : List (List ℕ)) → AreFine c p g before words → List ℕ
numbers c p g before [] f = []
numbers c p g before (w ∷ ws) f = number f.0.key ∷ numbers c p g (before ++ w ∷ []) ws f.1

as_many : (c : Command) (p g : ℕ) (before words : List (List ℕ)) (f : AreFine c p g before words) → length (numbers c p g before words f) ≡ length words
as_many c p g before [] f = refl
as_many c p g before (w ∷ ws) f = ap suc (as_many c p g (before ++ w ∷ []) ws f.1)

pub none_at : (front back : List (List ℕ)) (w : List ℕ) (k : Key) → NoneSets (front ++ w ∷ back) k → (v : List ℕ) → Sets w k v → ⊥
none_at [] back w k h = h.0
none_at (x ∷ xs) back w k h = none_at xs back w k h.1

differ : (front back : List (List ℕ)) (w : List ℕ) (k l : Key) (v : List ℕ) → Sets w k v → NoneSets (front ++ w ∷ back) l → eqb (number k) (number l) ≡ false
differ front back' w k l v s h = elim (eqb_tells (number k) (number l)) [
  | inl e ↦
      let same : k ≡ l = sym (back k) ∙ ap key_at e.1 ∙ back l in
      let P : Key → Type 0 = λ x. Sets w x v in
      absurd (none_at front back' w l h v (subst P same s))
  | inr e ↦ e.0
]

along : (c : Command) (p g : ℕ) (k : Key) (xs b d : List (List ℕ)) → b ≡ d → (f : AreFine c p g b xs)
    → ((h : AreFine c p g d xs) → AllByRecursion (λ y. eqb (number k) y ≡ false) (numbers c p g d xs h)) → AllByRecursion (λ y. eqb (number k) y ≡ false) (numbers c p g b xs f)
along c p g k xs b d e f h =
    let P : List (List ℕ) → Type 0 = λ z. (h : AreFine c p g z xs) → AllByRecursion (λ y. eqb (number k) y ≡ false) (numbers c p g z xs h) in
    subst P (sym e) h f

all_differ : (c : Command) (p g : ℕ) (front rest words : List (List ℕ)) (w : List ℕ) (k : Key) (v : List ℕ) → Sets w k v → (f : AreFine c p g (front ++ w ∷ rest) words)
    → AllByRecursion (λ y. eqb (number k) y ≡ false) (numbers c p g (front ++ w ∷ rest) words f)
all_differ c p g front rest [] w k v s f = tt
all_differ c p g front rest (x ∷ xs) w k v s f = (
  differ front rest w k f.0.key v s f.0.first,
  along c p g k xs ((front ++ w ∷ rest) ++ x ∷ []) (front ++ w ∷ (rest ++ x ∷ [])) (append_assoc front (w ∷ rest) (x ∷ [])) f.1 (λ h. all_differ c p g front (rest ++ x ∷ []) xs w k v s h),
)

distinct : (c : Command) (p g : ℕ) (before words : List (List ℕ)) (f : AreFine c p g before words) → IsDistinct eqb (numbers c p g before words f)
unfolding IsDistinct
distinct c p g before [] f = tt
distinct c p g before (w ∷ ws) f = (all_differ c p g before [] ws w f.0.key f.0.value f.0.sets f.1, distinct c p g (before ++ w ∷ []) ws f.1)

all_below : (c : Command) (p g : ℕ) (before words : List (List ℕ)) (f : AreFine c p g before words) → AllByRecursion (λ y. y < 9) (numbers c p g before words f)
all_below c p g before [] f = tt
all_below c p g before (w ∷ ws) f = (below f.0.key, all_below c p g (before ++ w ∷ []) ws f.1)

any_below : (xs : List ℕ) → AllByRecursion (λ y. y < 9) xs → (q : ℕ) → list_any (eqb q) xs ≡ true → q < 9
any_below [] h q e = absurd (not_true e)
any_below (x ∷ xs) h q e = elim (eqb_tells q x) [
  | inl t ↦ omega (arith, t.1, h.0)
  | inr t ↦ any_below xs h.1 q (later (eqb q x) (list_any (eqb q) xs) t.0 e)
]
  where
    later : (a b : Bool) → a ≡ false → a || b ≡ true → b ≡ true
    later true b e h = absurd (not_false e)
    later false b e h = h

pub at_most_nine : (c : Command) (p g : ℕ) (words : List (List ℕ)) → AreFine c p g [] words → length words ≤ 9
at_most_nine c p g words f = omega (arith, as_many c p g [] words f, length-le_from_distinct_below (numbers c p g [] words f) 9 (distinct c p g [] words f) (any_below (numbers c p g [] words f) (all_below c p g [] words f)))

pub two_at_most : (c : Command) → name_count c ≤ 2
two_at_most Fit = omega arith
two_at_most Report = omega arith
two_at_most Verify = omega arith
two_at_most Session = omega arith
two_at_most Unimodal = omega arith
two_at_most VerifyUnimodal = omega arith
two_at_most Levels = omega arith
two_at_most Sample = omega arith
