-- Settings have one first fault.
use Rattle.std.proofs.Common.{◌≡◌, ℕ, ◌+◌, List, [], ◌∷◌, ◌++◌, length, sym, ◌∙◌, subst, append_assoc, inl, inr}
use Rattle.std.proofs.lemmas.List.{append-nil}
use Rattle.std.specs.Prelude.{◌⊎◌}
use Rattle.ofit_num.proofs.Partings.{Parting, at_one, first_shorter, parted, second_shorter}
use Rattle.ofit_words.specs.declared.command.Command.{Command}
use Rattle.ofit_words.specs.declared.key.Key.{Key}
use Rattle.ofit_words.specs.declared.fault.WordFault.{WordFault}
use Rattle.ofit_words.specs.declared.fault.WordFault.TheVariants.{UnknownSetting, RepeatedSetting, BadSetting}
use Rattle.ofit_words.specs.Commands.{name_count, Sets}
use Rattle.ofit_words.specs.Values.{IsGood}
use Rattle.ofit_words.specs.Given.{NoneSets, IsUnknown, IsRepeated, IsBad, IsFine, AreFine}
use Rattle.ofit_words.proofs.Settled.{one_setting}
use Rattle.ofit_words.proofs.OneValue.{no_value}

one_key : (word : List ℕ) (k l : Key) (v w : List ℕ) → Sets word k v → Sets word l w → (k ≡ l) × (v ≡ w)
one_key word k l v w s t = one_setting k l v w (sym s ∙ t)

-- a word that is the first to set its key doesn't repeat it
first_or_repeated : (command : Command) (before : List (List ℕ)) (word : List ℕ) (key : Key) (value : List ℕ) → Sets word key value → NoneSets before key → IsRepeated command before word → ⊥
first_or_repeated command before word key value s n r =
    let P : Key → Type 0 = NoneSets before in
    no_value before r.key r.earlier (subst P (one_key word key r.key value r.value s r.sets).0 n) r.given

fine_or_bad : (command : Command) (places groups : ℕ) (before : List (List ℕ)) (word : List ℕ) → IsFine command places groups before word → IsBad command places groups before word → ⊥
fine_or_bad command places groups before word f b =
    let same : (f.key ≡ b.key) × (f.value ≡ b.value) = one_key word f.key b.key f.value b.value f.sets b.sets in
    let P : Key → Type 0 = λ k. IsGood places groups k f.value in
    let Q : List ℕ → Type 0 = IsGood places groups b.key in
    b.bad (subst Q same.1 (subst P same.0 f.good))

-- the fault of a setting at this place
abbrev pub IsFault : Command → ℕ → ℕ → List (List ℕ) → List ℕ → ℕ → WordFault → Type 0
IsFault command places groups before word place fault =
    ((fault ≡ UnknownSetting place) × IsUnknown command word)
    ⊎ (((fault ≡ RepeatedSetting place) × IsRepeated command before word) ⊎ ((fault ≡ BadSetting place) × IsBad command places groups before word))

fine_or_fault : (command : Command) (places groups : ℕ) (before : List (List ℕ)) (word : List ℕ) (place : ℕ) (fault : WordFault) → IsFine command places groups before word
    → IsFault command places groups before word place fault → ⊥
fine_or_fault command places groups before word place fault f (inl u) = u.1 f.key f.value f.has f.sets
fine_or_fault command places groups before word place fault f (inr (inl r)) = first_or_repeated command before word f.key f.value f.sets f.first r.1
fine_or_fault command places groups before word place fault f (inr (inr b)) = fine_or_bad command places groups before word f b.1

one_kind : (command : Command) (places groups : ℕ) (before : List (List ℕ)) (word : List ℕ) (place : ℕ) (f h : WordFault) → IsFault command places groups before word place f
    → IsFault command places groups before word place h → f ≡ h
one_kind command places groups before word place f h (inl x) (inl y) = x.0 ∙ sym y.0
one_kind command places groups before word place f h (inl x) (inr (inl y)) = absurd (x.1 y.1.key y.1.value y.1.has y.1.sets)
one_kind command places groups before word place f h (inl x) (inr (inr y)) = absurd (x.1 y.1.key y.1.value y.1.has y.1.sets)
one_kind command places groups before word place f h (inr (inl x)) (inl y) = absurd (y.1 x.1.key x.1.value x.1.has x.1.sets)
one_kind command places groups before word place f h (inr (inl x)) (inr (inl y)) = x.0 ∙ sym y.0
one_kind command places groups before word place f h (inr (inl x)) (inr (inr y)) = absurd (first_or_repeated command before word y.1.key y.1.value y.1.sets y.1.first x.1)
one_kind command places groups before word place f h (inr (inr x)) (inl y) = absurd (y.1 x.1.key x.1.value x.1.has x.1.sets)
one_kind command places groups before word place f h (inr (inr x)) (inr (inl y)) = absurd (first_or_repeated command before word x.1.key x.1.value x.1.sets x.1.first y.1)
one_kind command places groups before word place f h (inr (inr x)) (inr (inr y)) = x.0 ∙ sym y.0

-- the first of the settings that has a fault, and this one
pub record IsFirst (command : Command) (places groups : ℕ) (words : List (List ℕ)) (fault : WordFault) : Type 0 where
  pub before : List (List ℕ)
  pub word : List ℕ
  pub after : List (List ℕ)
  pub spells : words ≡ before ++ word ∷ after
  pub fine : AreFine command places groups [] before
  pub found : IsFault command places groups before word (1 + name_count command + length before) fault

-- each of the settings that have no fault has none behind those before it
fine_at : (command : Command) (places groups : ℕ) (start front : List (List ℕ)) (word : List ℕ) (after : List (List ℕ)) → AreFine command places groups start (front ++ word ∷ after)
    → IsFine command places groups (start ++ front) word
fine_at command places groups start [] word after f = let P : List (List ℕ) → Type 0 = λ b. IsFine command places groups b word in subst P (sym (append-nil start)) f.0
fine_at command places groups start (x ∷ xs) word after f =
    let P : List (List ℕ) → Type 0 = λ b. IsFine command places groups b word in
    subst P (append_assoc start (x ∷ []) xs) (fine_at command places groups (start ++ x ∷ []) xs word after f.1)

pub fine_or_first : (command : Command) (places groups : ℕ) (words : List (List ℕ)) (fault : WordFault) → AreFine command places groups [] words → IsFirst command places groups words fault → ⊥
fine_or_first command places groups words fault f h =
    let P : List (List ℕ) → Type 0 = AreFine command places groups [] in
    fine_or_fault command places groups h.before h.word _ fault (fine_at command places groups [] h.before h.word h.after (subst P h.spells f)) h.found

pub one_first : (command : Command) (places groups : ℕ) (words : List (List ℕ)) (f h : WordFault) → IsFirst command places groups words f → IsFirst command places groups words h → f ≡ h
one_first command places groups words f h x y = by_cut (parted x.before y.before x.after y.after x.word y.word (sym x.spells ∙ y.spells))
  where
    by_cut : Parting x.before y.before x.word y.word → f ≡ h
    by_cut (at_one same word) =
        let P : List (List ℕ) → Type 0 = λ b. IsFault command places groups b x.word (1 + name_count command + length b) f in
        let Q : List ℕ → Type 0 = λ w. IsFault command places groups y.before w (1 + name_count command + length y.before) f in
        one_kind command places groups y.before y.word (1 + name_count command + length y.before) f h (subst Q word (subst P same x.found)) y.found
    by_cut (first_shorter rest e) =
        let P : List (List ℕ) → Type 0 = AreFine command places groups [] in
        absurd (fine_or_fault command places groups x.before x.word _ f (fine_at command places groups [] x.before x.word rest (subst P e y.fine)) x.found)
    by_cut (second_shorter rest e) =
        let P : List (List ℕ) → Type 0 = AreFine command places groups [] in
        absurd (fine_or_fault command places groups y.before y.word _ h (fine_at command places groups [] y.before y.word rest (subst P e x.fine)) y.found)
