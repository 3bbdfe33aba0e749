-- what is found of the settings
use Rattle.std.proofs.Common.{◌≡◌, ℕ, ◌+◌, length, List, [], ◌∷◌, ◌++◌, refl, sym, ap, ◌∙◌, subst, append_assoc, inl, inr}
use Rattle.std.proofs.lemmas.List.{append-nil}
use Rattle.std.specs.Prelude.{false, IfOk, Result, Ok, Err, IsErrOf, ◌⊎◌}
use Rattle.std.specs.Result.{IsErr, IsErrAnd}
use Rattle.ofit_words.specs.declared.command.Command.{Command}
use Rattle.ofit_words.specs.declared.command.Command.TheVariants as commands
use Rattle.ofit_words.specs.declared.key.Key.{Key}
use Rattle.ofit_words.specs.declared.job.Job.{Job}
use Rattle.ofit_words.specs.declared.fault.WordFault.{WordFault}
use Rattle.ofit_words.specs.declared.fault.WordFault.TheVariants.{LevelOutOfRange, UnknownSetting, RepeatedSetting, BadSetting, BoundsCross, Memory}
use Rattle.ofit_words.specs.Commands.{command_name, name_count, has_key, Sets}
use Rattle.ofit_words.specs.Given.{AreInForce, IsUnknown, IsFine, AreFine}
use Rattle.ofit_words.specs.Judged.{Judged, HasFault, UnlessMemory}
use Rattle.ofit_words.specs.Words.{FirstAt, IsCall, WordsRead}
use Rattle.ofit_words.specs.JobLimits.{IsJobInLimits}
use Rattle.ofit_words.specs.Made.{JobMade, IsNoLevel}
use Rattle.ofit_words.proofs.Settled.{one_setting, not_false}

-- a key that the command doesn't have makes the word an unknown one
pub unknown_from : (command : Command) (word : List ℕ) (key : Key) (value : List ℕ) → Sets word key value → has_key command key ≡ false → IsUnknown command word
unknown_from command word key value s h = λ k v has t. not_false (sym has ∙ ap (has_key command) (one_setting k key v value (sym t ∙ s)).0 ∙ h)

pub fine_more : (command : Command) (places groups : ℕ) (before words : List (List ℕ)) (word : List ℕ) → AreFine command places groups before words → IsFine command places groups (before ++ words) word
    → AreFine command places groups before (words ++ word ∷ [])
fine_more command places groups before [] word f h = (let P : List (List ℕ) → Type 0 = λ b. IsFine command places groups b word in subst P (append-nil before) h, tt)
fine_more command places groups before (w ∷ ws) word f h =
    (f.0, fine_more command places groups (before ++ w ∷ []) ws word f.1 (let P : List (List ℕ) → Type 0 = λ b. IsFine command places groups b word in subst P (sym (append_assoc before (w ∷ []) ws)) h))

pub unless : (fault : WordFault) (P : Type 0) → P → UnlessMemory fault P
unless Memory P h = tt
unless other P h = h

-- what holds of a fault holds where it is passed on
pub passed_on : {X : Type 0} (r : Result X WordFault) (fault : WordFault) (P : Result X WordFault → Type 0) → IsErr r → IsErrAnd r (λ f. f ≡ fault) → P (Err fault) → P r
passed_on (Ok x) fault P i a p = absurd (cc)
passed_on {X} (Err f) fault P i a p = subst (λ (t : WordFault). P (Err t)) (sym a) p

moved : (words : List (List ℕ)) (command : Command) (names ss ts : List (List ℕ)) → ss ≡ ts → IsCall words command names ss → IsCall words command names ts
moved words command names ss ts e h = let P : List (List ℕ) → Type 0 = IsCall words command names in subst P e h

in_force_moved : (ss ts : List (List ℕ)) (places groups : ℕ) → ss ≡ ts → AreInForce ss places groups → AreInForce ts places groups
in_force_moved ss ts places groups e h = let P : List (List ℕ) → Type 0 = λ s. AreInForce s places groups in subst P e h

-- the first setting with a fault, at its place among all the words
first_at : (fault : WordFault) (words : List (List ℕ)) (command : Command) (names ss : List (List ℕ)) (places groups place : ℕ) → IsCall words command names ss → AreInForce ss places groups → (h : HasFault command places groups ss fault)
    → place ≡ 1 + name_count command + length h.before → FirstAt words place command places groups h.before h.word
first_at fault words command names ss places groups place c f h at = record {
  names = names;
  after = h.after;
  call = moved words command names ss (h.before ++ h.word ∷ h.after) h.spells c;
  in_force = in_force_moved ss (h.before ++ h.word ∷ h.after) places groups h.spells f;
  fine = h.fine;
  at = at;
}

-- the fault of a setting is the first of all the words
pub fault_of_words : (fault : WordFault) (words : List (List ℕ)) (command : Command) (names ss : List (List ℕ)) (places groups : ℕ) → IsCall words command names ss → AreInForce ss places groups
    → UnlessMemory fault (HasFault command places groups ss fault) → IsErrOf {T = Job} (Err fault) Memory ⊎ WordsRead words (Err fault)
fault_of_words Memory words command names ss places groups c f h = inl refl
fault_of_words (UnknownSetting n) words command names ss places groups c f h =
    inr (command, places, groups, h.before, h.word, first_at (UnknownSetting n) words command names ss places groups n c f h h.judged.0, h.judged.1)
fault_of_words (RepeatedSetting n) words command names ss places groups c f h =
    inr (command, places, groups, h.before, h.word, first_at (RepeatedSetting n) words command names ss places groups n c f h h.judged.0, h.judged.1)
fault_of_words (BadSetting n) words command names ss places groups c f h =
    inr (command, places, groups, h.before, h.word, first_at (BadSetting n) words command names ss places groups n c f h h.judged.0, h.judged.1)
fault_of_words other words command names ss places groups c f h = absurd h.judged

-- a level that isn't one
pub no_level_of_words : (words : List (List ℕ)) (command : Command) (names ss : List (List ℕ)) → words ≡ command_name command ∷ (names ++ ss) → IsNoLevel command names → WordsRead words (Err LevelOutOfRange)
no_level_of_words words command names ss e h = (h.1.0, ss, e ∙ ap (λ c. command_name c ∷ (names ++ ss)) h.0 ∙ ap (λ (ns : List (List ℕ)). command_name commands.Levels ∷ (ns ++ ss)) h.1.1, h.1.2)

-- the words are read as the job that is made, or their bounds cross
pub made_of_words : (r : Result Job WordFault) (words : List (List ℕ)) (command : Command) (names ss : List (List ℕ)) (places groups : ℕ) → IsCall words command names ss → AreInForce ss places groups
    → AreFine command places groups [] ss → JobMade command names ss r → IsErrOf r Memory ⊎ WordsRead words r
made_of_words (Ok job) words command names ss places groups c f a h = inr (command, names, ss, record { places = places; groups = groups; call = c; in_force = f; fine = a }, h.0)
made_of_words (Err BoundsCross) words command names ss places groups c f a h = inr (command, names, ss, h.0, record { places = places; groups = groups; call = c; in_force = f; fine = a }, h.1, h.2)
made_of_words (Err Memory) words command names ss places groups c f a h = inl refl
made_of_words (Err LevelOutOfRange) words command names ss places groups c f a h = inr (no_level_of_words words command names ss c.spells h)
made_of_words (Err other) words command names ss places groups c f a h = absurd h

pub limits_of_made : (r : Result Job WordFault) (command : Command) (names ss : List (List ℕ)) → JobMade command names ss r → IfOk r IsJobInLimits
limits_of_made (Ok job) command names ss h = h.1
limits_of_made (Err f) command names ss h = tt

pub judged_moved : (A : Type 0) (fault : WordFault) (command : Command) (places groups : ℕ) (b d : List (List ℕ)) (v w : List ℕ) (n m : ℕ) → b ≡ d → v ≡ w → n ≡ m
    → Judged {A = A} command places groups b v n (Err fault) → Judged {A = A} command places groups d w m (Err fault)
judged_moved A fault command places groups b d v w n m e f g h =
    let P : List (List ℕ) → Type 0 = λ x. Judged {A = A} command places groups x v n (Err fault) in
    let Q : List ℕ → Type 0 = λ x. Judged {A = A} command places groups d x n (Err fault) in
    let R : ℕ → Type 0 = λ x. Judged {A = A} command places groups d w x (Err fault) in
    subst R g (subst Q f (subst P e h))

pub fine_moved : (command : Command) (places groups : ℕ) (b d : List (List ℕ)) (v w : List ℕ) → b ≡ d → v ≡ w → IsFine command places groups b v → IsFine command places groups d w
fine_moved command places groups b d v w e f h =
    let P : List (List ℕ) → Type 0 = λ x. IsFine command places groups x v in
    let Q : List ℕ → Type 0 = λ x. IsFine command places groups d x in
    subst Q f (subst P e h)

pub fine_along : (command : Command) (places groups : ℕ) (xs ys : List (List ℕ)) → xs ≡ ys → AreFine command places groups [] xs → AreFine command places groups [] ys
fine_along command places groups xs ys e h = let P : List (List ℕ) → Type 0 = AreFine command places groups [] in subst P e h
