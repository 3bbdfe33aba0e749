-- A word sets one key to one value.
use Rattle.std.proofs.Common.{◌≡◌, ◌≢◌, ◌<◌, ℕ, zero, suc, List, [], ◌∷◌, ◌++◌, length, get_or, refl, sym, ap, ap₂, ◌∙◌, arith, Bool, cond}
use Rattle.std.proofs.Math.Dec.{eqb}
use Rattle.std.proofs.lemmas.Bool.{eq-eqb}
use Rattle.std.specs.Cmp.Lexicographic.{pointwise}
use Rattle.std.specs.List.{AllByRecursion}
use Rattle.std.specs.Prelude.{true, false, codes, nat_eq}
use Rattle.ofit_num.proofs.Partings.{head_same, tail_same}
use Rattle.ofit_words.specs.declared.key.Key.{Key}
use Rattle.ofit_words.specs.declared.key.Key.TheVariants.{Order, Loss, Places, Lo, Hi, Seed, Groups, Rows, Shape}
use Rattle.ofit_words.specs.Commands.{key_name}

pub not_true : false ≡ true → ⊥
not_true e = cc

pub not_false : true ≡ false → ⊥
not_false e = cc

pub apart0 : (b c : ℕ) (bs cs : List ℕ) → eqb b c ≡ false → b ∷ bs ≡ c ∷ cs → ⊥
apart0 b c bs cs h e = not_false (sym (eq-eqb b c (head_same b c bs cs e)) ∙ h)

abbrev is_text : List ℕ → List ℕ → Bool
is_text = pointwise nat_eq

-- the key of this name
abbrev keyed : List ℕ → Key
keyed t = cond (is_text t (codes "order")) Order (cond (is_text t (codes "loss")) Loss (cond (is_text t (codes "places")) Places (cond (is_text t (codes "lo")) Lo (cond (is_text t (codes "hi")) Hi
    (cond (is_text t (codes "seed")) Seed (cond (is_text t (codes "groups")) Groups (cond (is_text t (codes "rows")) Rows Shape)))))))

back : (k : Key) → keyed (key_name k) ≡ k
back Order = refl
back Loss = refl
back Places = refl
back Lo = refl
back Hi = refl
back Seed = refl
back Groups = refl
back Rows = refl
back Shape = refl

-- no key's name has a `=`
abbrev pub IsUncut : List ℕ → Type 0
IsUncut text = AllByRecursion (λ b. eqb b 61 ≡ false) text

uncut : (k : Key) → IsUncut (key_name k)
uncut Order = (refl, (refl, (refl, (refl, (refl, tt)))))
uncut Loss = (refl, (refl, (refl, (refl, tt))))
uncut Places = (refl, (refl, (refl, (refl, (refl, (refl, tt))))))
uncut Lo = (refl, (refl, tt))
uncut Hi = (refl, (refl, tt))
uncut Seed = (refl, (refl, (refl, (refl, tt))))
uncut Groups = (refl, (refl, (refl, (refl, (refl, (refl, tt))))))
uncut Rows = (refl, (refl, (refl, (refl, tt))))
uncut Shape = (refl, (refl, (refl, (refl, (refl, tt)))))

free_at : (xs : List ℕ) → IsUncut xs → (i : ℕ) → i < length xs → get_or xs i 0 ≢ 61
free_at [] h i l = absurd (omega arith)
free_at (x ∷ xs) h zero l = λ e. not_false (sym (eq-eqb x 61 e) ∙ h.0)
free_at (x ∷ xs) h (suc i) l = free_at xs h.1 i (omega arith)

pub name_free : (k : Key) (i : ℕ) → i < length (key_name k) → get_or (key_name k) i 0 ≢ 61
name_free k = free_at (key_name k) (uncut k)

one_cut : (xs ys v w : List ℕ) → IsUncut xs → IsUncut ys → xs ++ 61 ∷ v ≡ ys ++ 61 ∷ w → (xs ≡ ys) × (v ≡ w)
one_cut [] [] v w f g e = (refl, tail_same 61 61 v w e)
one_cut [] (y ∷ ys) v w f g e = absurd (not_false (sym (eq-eqb y 61 (sym (head_same 61 y v (ys ++ 61 ∷ w) e))) ∙ g.0))
one_cut (x ∷ xs) [] v w f g e = absurd (not_false (sym (eq-eqb x 61 (head_same x 61 (xs ++ 61 ∷ v) w e)) ∙ f.0))
one_cut (x ∷ xs) (y ∷ ys) v w f g e =
    let rest : (xs ≡ ys) × (v ≡ w) = one_cut xs ys v w f.1 g.1 (tail_same x y (xs ++ 61 ∷ v) (ys ++ 61 ∷ w) e) in
    (ap₂ (λ (z : ℕ) (zs : List ℕ). z ∷ zs) (head_same x y (xs ++ 61 ∷ v) (ys ++ 61 ∷ w) e) rest.0, rest.1)

pub one_setting : (k l : Key) (v w : List ℕ) → key_name k ++ 61 ∷ v ≡ key_name l ++ 61 ∷ w → (k ≡ l) × (v ≡ w)
one_setting k l v w e =
    let cut : (key_name k ≡ key_name l) × (v ≡ w) = one_cut (key_name k) (key_name l) v w (uncut k) (uncut l) e in
    (sym (back k) ∙ ap keyed cut.0 ∙ back l, cut.1)
