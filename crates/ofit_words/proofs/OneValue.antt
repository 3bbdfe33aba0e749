-- Words give a key one value, which is read in one way.
use Rattle.std.proofs.Common.{◌≡◌, ℕ, List, [], ◌∷◌, ◌++◌, refl, sym, ap, ap₂, ◌∙◌, subst, inl, inr}
use Rattle.std.specs.Prelude.{ℤ, Option, Some, None}
use Rattle.ofit_num.proofs.Partings.{head_same, tail_same}
use Rattle.ofit_study.specs.declared.loss.LossKind.{LossKind}
use Rattle.ofit_study.specs.declared.loss.LossKind.TheVariants as loss
use Rattle.ofit_study.specs.declared.settings.Settings.{Settings}
use Rattle.ofit_words.specs.declared.key.Key.{Key}
use Rattle.ofit_words.specs.declared.key.Key.TheVariants.{Loss, Places, Lo, Hi, Groups}
use Rattle.ofit_words.specs.Commands.{Sets}
use Rattle.ofit_words.specs.Values.{IsNumberIn, IsListedLoss, IsBound}
use Rattle.ofit_words.specs.Given.{NoneSets, Given, IsReadAs, InForce, AreInForce}
use Rattle.ofit_words.specs.Words.{SettingsOf}
use Rattle.ofit_words.proofs.Settled.{one_setting}
use Rattle.ofit_words.proofs.Nine.{none_at}
use Rattle.ofit_words.proofs.Names.{one_whole, one_loss, one_bound}

-- where none sets the key, none gives it a value
pub no_value : (words : List (List ℕ)) (key : Key) (value : List ℕ) → NoneSets words key → Given words key (Some value) → ⊥
no_value words key value h (before, word, after, e, s, n) =
    let P : List (List ℕ) → Type 0 = λ ws. NoneSets ws key in
    none_at before after word key (subst P e h) value s

-- the first word of two cuts that sets the key
same_value : (before front after back : List (List ℕ)) (word other : List ℕ) (key : Key) (value given : List ℕ) → before ++ word ∷ after ≡ front ++ other ∷ back → Sets word key value → Sets other key given
    → NoneSets before key → NoneSets front key → value ≡ given
same_value [] [] after back word other key value given e s t n m = (one_setting key key value given (sym s ∙ head_same word other after back e ∙ t)).1
same_value [] (x ∷ xs) after back word other key value given e s t n m = absurd (m.0 value (sym (head_same word x after (xs ++ other ∷ back) e) ∙ s))
same_value (x ∷ xs) [] after back word other key value given e s t n m = absurd (n.0 given (head_same x other (xs ++ word ∷ after) back e ∙ t))
same_value (x ∷ xs) (y ∷ ys) after back word other key value given e s t n m =
    same_value xs ys after back word other key value given (tail_same x y (xs ++ word ∷ after) (ys ++ other ∷ back) e) s t n.1 m.1

pub one_given : (words : List (List ℕ)) (key : Key) (r t : Option (List ℕ)) → Given words key r → Given words key t → r ≡ t
one_given words key None None h k = refl
one_given words key None (Some v) h k = absurd (no_value words key v h k)
one_given words key (Some v) None h k = absurd (no_value words key v k h)
one_given words key (Some v) (Some w) (before, word, after, e, s, n) (front, other, back, d, t, m) =
    ap Some (same_value before front after back word other key v w (sym e ∙ d) s t n m)

read_one : {A : Type 0} (P : List ℕ → A → Type 0) (default : A) → ((value : List ℕ) (x y : A) → P value x → P value y → x ≡ y) → (given : Option (List ℕ)) (x y : A) → IsReadAs P default x given
    → IsReadAs P default y given → x ≡ y
read_one P default one None x y r t = r ∙ sym t
read_one P default one (Some v) x y (inl r) (inl t) = one v x y r t
read_one P default one (Some v) x y (inl r) (inr t) = absurd (t.0 x r)
read_one P default one (Some v) x y (inr r) (inl t) = absurd (r.0 y t)
read_one P default one (Some v) x y (inr r) (inr t) = r.1 ∙ sym t.1

pub one_in_force : {A : Type 0} (P : List ℕ → A → Type 0) (words : List (List ℕ)) (key : Key) (default : A) → ((value : List ℕ) (x y : A) → P value x → P value y → x ≡ y)
    → (x y : A) → InForce words key P default x → InForce words key P default y → x ≡ y
one_in_force P words key default one x y (given, g, r) (other, o, t) =
    let Q : Option (List ℕ) → Type 0 = IsReadAs P default y in
    read_one P default one given x y r (subst Q (one_given words key other given o g) t)

pub one_force : (words : List (List ℕ)) (places groups p g : ℕ) → AreInForce words places groups → AreInForce words p g → (places ≡ p) × (groups ≡ g)
one_force words places groups p g h k = (
  one_in_force (IsNumberIn 0 6) words Places 3 (one_whole 0 6) places p h.for_places k.for_places,
  one_in_force (IsNumberIn 1 2000) words Groups 100 (one_whole 1 2000) groups g h.for_groups k.for_groups,
)

pub one_settings : (words : List (List ℕ)) (s t : Settings) → SettingsOf words s → SettingsOf words t → s ≡ t
one_settings words s t h k =
    let same : s.places ≡ t.places = one_in_force (IsNumberIn 0 6) words Places 3 (one_whole 0 6) s.places t.places h.places k.places in
    let make : LossKind → ℕ → Option ℤ → Option ℤ → Settings = λ l p a b. record { loss = l; places = p; lo = a; hi = b } in
    let P : Key → Option ℤ → ℕ → Type 0 = λ key x p. InForce words key (IsBound p) None x in
    let loss_is : s.loss ≡ t.loss = one_in_force IsListedLoss words Loss loss.Squares one_loss s.loss t.loss h.loss k.loss in
    let lo_is : s.lo ≡ t.lo = one_in_force (IsBound s.places) words Lo None (one_bound s.places) s.lo t.lo h.lo (subst (P Lo t.lo) (sym same) k.lo) in
    let hi_is : s.hi ≡ t.hi = one_in_force (IsBound s.places) words Hi None (one_bound s.places) s.hi t.hi h.hi (subst (P Hi t.hi) (sym same) k.hi) in
    ap₂ (λ (l : LossKind) (p : ℕ). make l p s.lo s.hi) loss_is same ∙ ap₂ (λ (a b : Option ℤ). make t.loss t.places a b) lo_is hi_is
