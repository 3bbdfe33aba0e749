-- Settings that are read, and what is in force by them.
use Rattle.std.proofs.Common.{◌≡◌, ◌+◌, ◌<◌, ◌≤◌, ℕ, zero, suc, List, [], ◌∷◌, length, take, get_or, refl, sym, ap, ◌∙◌, subst, arith, inl, inr, ◌⊎◌}
use Rattle.std.proofs.lemmas.List.{take_more, take_all}
use Rattle.std.proofs.lemmas.Option.{get_or_from_slice_get, slice_get-get_or}
use Rattle.std.specs.Prelude.{ℤ, Option, Some, None, MatchOption, is_some, true, false, slice_get, unwrap_or}
use Rattle.ofit_study.specs.declared.loss.LossKind.{LossKind}
use Rattle.ofit_study.specs.declared.loss.LossKind.TheVariants as loss
use Rattle.ofit_study.specs.Loss.{IsListed}
use Rattle.ofit_study.specs.Settings.{IsBoundInLimits}
use Rattle.ofit_words.specs.declared.job.Kind.{Kind}
use Rattle.ofit_words.specs.declared.job.OrderChoice.{OrderChoice}
use Rattle.ofit_words.specs.declared.key.Key.{Key}
use Rattle.ofit_words.specs.declared.key.Key.TheVariants.{Order, Loss, Places, Lo, Hi, Seed, Groups, Rows, Shape}
use Rattle.ofit_words.specs.declared.setting.Setting.{Setting}
use Rattle.ofit_words.specs.declared.setting.Value.{Value}
use Rattle.ofit_words.specs.declared.setting.Value.TheVariants as value
use Rattle.ofit_words.specs.Commands.{Sets}
use Rattle.ofit_words.specs.Values.{IsBound, IsGood, IsKind, IsListedLoss, IsNumberIn, IsOrder}
use Rattle.ofit_words.specs.Given.{NoneSets, Given, InForce}
use Rattle.ofit_words.specs.Read.{Reads, IsRead, AreRead, LackKey, IsFirstOf, HasAt, IsFoundAs}
use Rattle.ofit_words.proofs.Settled.{one_setting, not_true, not_false}
use Rattle.ofit_words.proofs.Lists.{all_more}

-- what is read is good
pub good_from : (p g : ℕ) (key : Key) (text : List ℕ) (v : Value) → Reads p g key text v → IsGood p g key text
good_from p g Order text v h = (h.0, h.2)
good_from p g Loss text v h = (h.0, h.2)
good_from p g Places text v h = (h.0, h.2)
good_from p g Lo text v h = (Some h.0, h.2)
good_from p g Hi text v h = (Some h.0, h.2)
good_from p g Seed text v h = (h.0, h.2)
good_from p g Groups text v h = (h.0, h.2)
good_from p g Rows text v h = (h.0, h.2)
good_from p g Shape text v h = (h.0, h.2)

-- a word that sets one key sets no other
other_key : (word : List ℕ) (key other : Key) (text : List ℕ) → Sets word key text → (key ≡ other → ⊥) → (value : List ℕ) → Sets word other value → ⊥
other_key word key other text s apart value t = apart (one_setting key other text value (sym s ∙ t)).0

pub lack_read : (p g : ℕ) (words : List (List ℕ)) (settings : List Setting) (key : Key) → AreRead p g words settings → LackKey settings key → NoneSets words key
lack_read p g [] settings key r h = tt
lack_read p g (w ∷ ws) [] key r h = absurd r
lack_read p g (w ∷ ws) (s ∷ ss) key r h = (other_key w s.key key r.0.text r.0.sets h.0, lack_read p g ws ss key r.1 h.1)

-- a setting more that has another key
pub lack_more : (settings : List Setting) (i : ℕ) (d : Setting) (key : Key) → i < length settings → LackKey (take i settings) key → ((get_or settings i d).key ≡ key → ⊥) → LackKey (take (i + 1) settings) key
lack_more settings i d key l h off = subst (λ ss. LackKey ss key) (sym (take_more settings i d l)) (all_more (λ (x : Setting). x.key ≡ key → ⊥) (take i settings) (get_or settings i d) h off)

pub lack_all : (settings : List Setting) (i : ℕ) (key : Key) → length settings ≤ i → LackKey (take i settings) key → LackKey settings key
lack_all settings i key l h = subst (λ ss. LackKey ss key) (take_all i settings l) h

pub key_at : (settings : List Setting) (i : ℕ) (d : Setting) (key : Key) → (get_or settings i d).key ≡ key → (s : Setting) → slice_get settings i ≡ Some s → s.key ≡ key
key_at settings i d key k s at = ap (λ (x : Setting). x.key) (sym (get_or_from_slice_get settings i s d at)) ∙ k

-- a further word behind one that doesn't set the key
has_more : (p g : ℕ) (word : List ℕ) (words : List (List ℕ)) (key : Key) (v : Value) → ((value : List ℕ) → Sets word key value → ⊥) → HasAt p g words key v → HasAt p g (word ∷ words) key v
has_more p g word words key v off (text, (before, w, after, e, s, n), r) = (text, (word ∷ before, w, after, ap (λ (t : List (List ℕ)). word ∷ t) e, s, (off, n)), r)

pub has_read : (p g : ℕ) (words : List (List ℕ)) (settings : List Setting) (key : Key) (place : ℕ) (s : Setting) → AreRead p g words settings → slice_get settings place ≡ Some s → s.key ≡ key → LackKey (take place settings) key
    → HasAt p g words key s.value
has_read p g [] [] key place s r e k h = absurd cc
has_read p g [] (t ∷ ts) key place s r e k h = absurd r
has_read p g (w ∷ ws) [] key place s r e k h = absurd r
has_read p g (w ∷ ws) (t ∷ ts) key zero s r e k h =
    let same : t ≡ s = cc in
    let here : IsRead p g w s = subst (IsRead p g w) same r.0 in
    (here.text, ([], w, ws, refl, subst (λ (l : Key). Sets w l here.text) k here.sets, tt), subst (λ (l : Key). Reads p g l here.text s.value) k here.reads)
has_read p g (w ∷ ws) (t ∷ ts) key (suc place) s r e k h = has_more p g w ws key s.value (other_key w t.key key r.0.text r.0.sets h.0) (has_read p g ws ts key place s r.1 e k h.1)

-- what is found, and the default where nothing is, is in force
pub in_force_found : {A : Type 0} (P : List ℕ → A → Type 0) (made : A → Value) (default x : A) (p g : ℕ) (words : List (List ℕ)) (key : Key) (r : Option A)
    → ((text : List ℕ) (y : A) → Reads p g key text (made y) → P text y) → IsFoundAs made p g words key r → x ≡ unwrap_or r default → InForce words key P default x
in_force_found P made default x p g words key None reads h e = (None, h, e)
in_force_found P made default x p g words key (Some y) reads (text, given, r) e = (Some text, given, inl (subst (P text) (sym e) (reads text y r)))

-- a bound is in force where one is found
pub bound_found : (made : ℤ → Value) (x : Option ℤ) (places p g : ℕ) (words : List (List ℕ)) (key : Key) (r : Option ℤ)
    → ((text : List ℕ) (z : ℤ) → Reads p g key text (made z) → IsBound places text (Some z)) → IsFoundAs made p g words key r → x ≡ r → InForce words key (IsBound places) None x
bound_found made x places p g words key None reads h e = (None, h, e)
bound_found made x places p g words key (Some z) reads (text, given, r) e = (Some text, given, inl (subst (IsBound places text) (sym e) (reads text z r)))

-- what each key's value says of its text
pub loss_reads : (p g : ℕ) (text : List ℕ) (y : LossKind) → Reads p g Loss text (value.Loss y) → IsListedLoss text y
loss_reads p g text y (x, e, h) = let same : x ≡ y = cc in subst (IsListedLoss text) same h

pub shape_reads : (p g : ℕ) (text : List ℕ) (y : Kind) → Reads p g Shape text (value.Shape y) → IsKind text y
shape_reads p g text y (x, e, h) = let same : x ≡ y = cc in subst (IsKind text) same h

pub order_reads : (p g : ℕ) (text : List ℕ) (y : OrderChoice) → Reads p g Order text (value.Order y) → IsOrder text y
order_reads p g text y (x, e, h) = let same : x ≡ y = cc in subst (IsOrder text) same h

pub seed_reads : (p g : ℕ) (text : List ℕ) (y : ℕ) → Reads p g Seed text (value.Number y) → IsNumberIn 0 4294967295 text y
seed_reads p g text y (x, e, h) = let same : x ≡ y = cc in subst (IsNumberIn 0 4294967295 text) same h

pub rows_reads : (p g : ℕ) (text : List ℕ) (y : ℕ) → Reads p g Rows text (value.Number y) → IsNumberIn g 10000 text y
rows_reads p g text y (x, e, h) = let same : x ≡ y = cc in subst (IsNumberIn g 10000 text) same h

pub lo_reads : (p g : ℕ) (text : List ℕ) (y : ℤ) → Reads p g Lo text (value.Bound y) → IsBound p text (Some y)
lo_reads p g text y (x, e, h) = let same : x ≡ y = cc in subst (λ (z : ℤ). IsBound p text (Some z)) same h

pub hi_reads : (p g : ℕ) (text : List ℕ) (y : ℤ) → Reads p g Hi text (value.Bound y) → IsBound p text (Some y)
hi_reads p g text y (x, e, h) = let same : x ≡ y = cc in subst (λ (z : ℤ). IsBound p text (Some z)) same h

-- and what is found is within its limits
pub listed_found : (p g : ℕ) (words : List (List ℕ)) (r : Option LossKind) → IsFoundAs (λ x. value.Loss x) p g words Loss r → IsListed (unwrap_or r loss.Squares)
listed_found p g words None h = tt
listed_found p g words (Some y) (text, given, r) = (loss_reads p g text y r).1

pub bounded_found : (p g : ℕ) (words : List (List ℕ)) (key : Key) (r : Option ℤ) → ((text : List ℕ) (z : ℤ) → Reads p g key text (value.Bound z) → IsBound p text (Some z)) → IsFoundAs (λ z. value.Bound z) p g words key r
    → IsBoundInLimits r
bounded_found p g words key None reads h = tt
bounded_found p g words key (Some z) reads (text, given, r) = (reads text z r).1

pub rows_found : (p g : ℕ) (words : List (List ℕ)) (r : Option ℕ) → g ≤ 2000 → IsFoundAs (λ n. value.Number n) p g words Rows r → (g ≤ unwrap_or r g) × (unwrap_or r g ≤ 10000)
rows_found p g words None l h = (omega arith, omega arith)
rows_found p g words (Some n) l (text, given, r) = let i = rows_reads p g text n r in (i.at_least, i.at_most)

-- a number that is read or not, by its range
pub number_reads : (low high : ℕ) (text : List ℕ) (r : Option Value) → MatchOption r ((n : ℕ) → IsNumberIn low high text n → ⊥) (λ v. (n : ℕ) × (v ≡ value.Number n) × IsNumberIn low high text n)
    → MatchOption r (((n : ℕ) × IsNumberIn low high text n) → ⊥) (λ v. (n : ℕ) × (v ≡ value.Number n) × IsNumberIn low high text n)
number_reads low high text None h = λ (n, i). h n i
number_reads low high text (Some v) h = h

-- what stands at the first setting of a key
pub has_at : (p g : ℕ) (words : List (List ℕ)) (settings : List Setting) (key : Key) (place : ℕ) (d : Setting) → IsFirstOf settings key (Some place) → AreRead p g words settings → HasAt p g words key (get_or settings place d).value
has_at p g words settings key place d (l, keyed, lacks) r =
    let at : slice_get settings place ≡ Some (get_or settings place d) = slice_get-get_or settings place d l in
    has_read p g words settings key place (get_or settings place d) r at (keyed (get_or settings place d) at) lacks

pub earlier_from : (p g : ℕ) (words : List (List ℕ)) (settings : List Setting) (key : Key) (r : Option ℕ) → is_some r ≡ true → IsFirstOf settings key r → AreRead p g words settings → (text : List ℕ) × Given words key (Some text)
earlier_from p g words settings key None e f r = absurd (not_true e)
earlier_from p g words settings key (Some place) e f r = let h = has_at p g words settings key place (record { key = key; value = value.Number 0 }) f r in (h.0, h.1)

pub first_from : (p g : ℕ) (words : List (List ℕ)) (settings : List Setting) (key : Key) (r : Option ℕ) → is_some r ≡ false → IsFirstOf settings key r → AreRead p g words settings → NoneSets words key
first_from p g words settings key (Some place) e f r = absurd (not_false e)
first_from p g words settings key None e f r = lack_read p g words settings key r f

pub found_as : {A : Type 0} (made : A → Value) (p g : ℕ) (words : List (List ℕ)) (key : Key) (v : Value) (r : Option A) → ((text : List ℕ) → Reads p g key text v → (x : A) × (v ≡ made x)) → HasAt p g words key v
    → MatchOption r ((x : A) → v ≡ made x → ⊥) (λ x. v ≡ made x) → IsFoundAs made p g words key r
found_as made p g words key v None known (text, given, h) m = let k = known text h in absurd (m k.0 k.1)
found_as made p g words key v (Some x) known (text, given, h) m = (text, given, subst (Reads p g key text) m h)

pub number_known : (p g : ℕ) (key : Key) (text : List ℕ) (v : Value) → (key ≡ Seed) ⊎ (key ≡ Rows) → Reads p g key text v → (n : ℕ) × (v ≡ value.Number n)
number_known p g key text v (inl e) h = let k : Reads p g Seed text v = subst (λ (l : Key). Reads p g l text v) e h in (k.0, k.1)
number_known p g key text v (inr e) h = let k : Reads p g Rows text v = subst (λ (l : Key). Reads p g l text v) e h in (k.0, k.1)

pub bound_known : (p g : ℕ) (key : Key) (text : List ℕ) (v : Value) → (key ≡ Lo) ⊎ (key ≡ Hi) → Reads p g key text v → (z : ℤ) × (v ≡ value.Bound z)
bound_known p g key text v (inl e) h = let k : Reads p g Lo text v = subst (λ (l : Key). Reads p g l text v) e h in (k.0, k.1)
bound_known p g key text v (inr e) h = let k : Reads p g Hi text v = subst (λ (l : Key). Reads p g l text v) e h in (k.0, k.1)
