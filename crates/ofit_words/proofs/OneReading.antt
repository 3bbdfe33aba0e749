-- Words have one reading.
use Rattle.std.proofs.Common.{◌≡◌, ℕ, ◌+◌, ◌<◌, List, [], ◌∷◌, ◌++◌, length, length-append, refl, sym, ap, ap₂, ◌∙◌, subst, arith, inl, inr}
use Rattle.std.specs.Prelude.{Result, Ok, Err, ◌⊎◌}
use Rattle.ofit_num.proofs.Partings.{head_same, tail_same}
use Rattle.ofit_words.specs.declared.command.Command.{Command}
use Rattle.ofit_words.specs.declared.command.Command.TheVariants as commands
use Rattle.ofit_words.specs.declared.job.Job.{Job}
use Rattle.ofit_words.specs.declared.fault.WordFault.{WordFault}
use Rattle.ofit_words.specs.declared.fault.WordFault.TheVariants.{NoCommand, UnknownCommand, MissingName, LevelOutOfRange, UnknownSetting, RepeatedSetting, BadSetting, BoundsCross, Memory}
use Rattle.ofit_words.specs.Commands.{command_name, name_count}
use Rattle.ofit_words.specs.Values.{IsNumberIn}
use Rattle.ofit_words.specs.Given.{AreInForce, AreFine}
use Rattle.ofit_words.specs.Words.{IsLevel, FirstAt, AllFine, IsJob, WordsRead}
use Rattle.ofit_words.specs.Made.{IsNoLevel, DoCross}
use Rattle.ofit_words.proofs.Names.{one_command}
use Rattle.ofit_words.proofs.OneValue.{one_force}
use Rattle.ofit_words.proofs.OneFault.{IsFault, IsFirst, fine_or_first, one_first}
use Rattle.ofit_words.proofs.OneJob.{one_job, crossed_or_job}

-- The reading, by what is read first: settings without a fault give a job, or their bounds cross;
abbrev IsMade : Command → List (List ℕ) → List (List ℕ) → Result Job WordFault → Type 0
IsMade c names words r = ((r ≡ Err BoundsCross) × DoCross words) ⊎ ((job : Job) × (r ≡ Ok job) × IsJob c names words job)

-- settings have a first fault, or none;
abbrev AreSettings : Command → ℕ → ℕ → List (List ℕ) → List (List ℕ) → Result Job WordFault → Type 0
AreSettings c places groups names words r =
    ((fault : WordFault) × (r ≡ Err fault) × IsFirst c places groups words fault) ⊎ (AreFine c places groups [] words × IsMade c names words r)

abbrev AreForced : Command → List (List ℕ) → List (List ℕ) → Result Job WordFault → Type 0
AreForced c names words r = (places : ℕ) × (groups : ℕ) × AreInForce words places groups × AreSettings c places groups names words r

-- a level is out of range, or settings follow;
abbrev IsLevelled : Command → List (List ℕ) → List (List ℕ) → Result Job WordFault → Type 0
IsLevelled c names words r = ((r ≡ Err LevelOutOfRange) × IsNoLevel c names) ⊎ ((c ≡ commands.Levels → (k : ℕ) × IsLevel names k) × AreForced c names words r)

-- names are missing, or stand before the settings;
abbrev AreNamed : Command → List (List ℕ) → Result Job WordFault → Type 0
AreNamed c rest r =
    ((r ≡ Err MissingName) × (length rest < name_count c))
    ⊎ ((names : List (List ℕ)) × (words : List (List ℕ)) × (rest ≡ names ++ words) × (length names ≡ name_count c) × IsLevelled c names words r)

-- the first word is no command, or one.
abbrev IsCommanded : List ℕ → List (List ℕ) → Result Job WordFault → Type 0
IsCommanded first rest r = ((r ≡ Err UnknownCommand) × ((c : Command) → first ≡ command_name c → ⊥)) ⊎ ((c : Command) × (first ≡ command_name c) × AreNamed c rest r)

abbrev AreRead : List (List ℕ) → Result Job WordFault → Type 0
AreRead [] r = r ≡ Err NoCommand
AreRead (first ∷ rest) r = IsCommanded first rest r

one_made : (c : Command) (p g : ℕ) (names words : List (List ℕ)) (r t : Result Job WordFault) → AreFine c p g [] words → IsMade c names words r → IsMade c names words t → r ≡ t
one_made c p g names words r t f (inl x) (inl y) = x.0 ∙ sym y.0
one_made c p g names words r t f (inl x) (inr (job, e, h)) = absurd (crossed_or_job c p g names words job f x.1 h)
one_made c p g names words r t f (inr (job, e, h)) (inl y) = absurd (crossed_or_job c p g names words job f y.1 h)
one_made c p g names words r t f (inr (job, e, h)) (inr (other, d, k)) = e ∙ ap Ok (one_job c names words job other h k) ∙ sym d

one_of_settings : (c : Command) (p g : ℕ) (names words : List (List ℕ)) (r t : Result Job WordFault) → AreSettings c p g names words r → AreSettings c p g names words t → r ≡ t
one_of_settings c p g names words r t (inl (f, e, h)) (inl (o, d, k)) = e ∙ ap Err (one_first c p g words f o h k) ∙ sym d
one_of_settings c p g names words r t (inl (f, e, h)) (inr y) = absurd (fine_or_first c p g words f y.0 h)
one_of_settings c p g names words r t (inr x) (inl (f, e, h)) = absurd (fine_or_first c p g words f x.0 h)
one_of_settings c p g names words r t (inr x) (inr y) = one_made c p g names words r t x.0 x.1 y.1

one_forced : (c : Command) (names words : List (List ℕ)) (r t : Result Job WordFault) → AreForced c names words r → AreForced c names words t → r ≡ t
one_forced c names words r t (p, g, f, x) (q, h, k, y) =
    let same : (q ≡ p) × (h ≡ g) = one_force words q h p g k f in
    let P : ℕ → Type 0 = λ n. AreSettings c n h names words t in
    let Q : ℕ → Type 0 = λ n. AreSettings c p n names words t in
    one_of_settings c p g names words r t x (subst Q same.1 (subst P same.0 y))

no_level_or_level : (c : Command) (names : List (List ℕ)) → IsNoLevel c names → (c ≡ commands.Levels → (k : ℕ) × IsLevel names k) → ⊥
no_level_or_level c names (e, (level, n, no_number)) h = by_level (h e)
  where
    by_level : ((k : ℕ) × IsLevel names k) → ⊥
    by_level (k, (other, m, i)) = let P : List ℕ → Type 0 = λ s. IsNumberIn 1 34 s k in no_number k (subst P (head_same other level [] [] (sym m ∙ n)) i)

one_levelled : (c : Command) (names words : List (List ℕ)) (r t : Result Job WordFault) → IsLevelled c names words r → IsLevelled c names words t → r ≡ t
one_levelled c names words r t (inl x) (inl y) = x.0 ∙ sym y.0
one_levelled c names words r t (inl x) (inr y) = absurd (no_level_or_level c names x.1 y.0)
one_levelled c names words r t (inr x) (inl y) = absurd (no_level_or_level c names y.1 x.0)
one_levelled c names words r t (inr x) (inr y) = one_forced c names words r t x.1 y.1

same_fronts : {X : Type 0} (xs ys us vs : List X) → xs ++ us ≡ ys ++ vs → length xs ≡ length ys → (xs ≡ ys) × (us ≡ vs)
same_fronts [] [] us vs e l = (refl, e)
same_fronts [] (y ∷ ys) us vs e l = absurd (omega arith)
same_fronts (x ∷ xs) [] us vs e l = absurd (omega arith)
same_fronts (x ∷ xs) (y ∷ ys) us vs e l = same_more (same_fronts xs ys us vs (tail_same x y (xs ++ us) (ys ++ vs) e) (omega arith))
  where
    same_more : (xs ≡ ys) × (us ≡ vs) → (x ∷ xs ≡ y ∷ ys) × (us ≡ vs)
    same_more h = (ap₂ (λ z zs. z ∷ zs) (head_same x y (xs ++ us) (ys ++ vs) e) h.0, h.1)

one_named : (c : Command) (rest : List (List ℕ)) (r t : Result Job WordFault) → AreNamed c rest r → AreNamed c rest t → r ≡ t
one_named c rest r t (inl x) (inl y) = x.0 ∙ sym y.0
one_named c rest r t (inl x) (inr (names, words, e, l, h)) = absurd (omega (arith, x.1, ap length e, length-append names words, l))
one_named c rest r t (inr (names, words, e, l, h)) (inl y) = absurd (omega (arith, y.1, ap length e, length-append names words, l))
one_named c rest r t (inr (names, words, e, l, h)) (inr (ns, ws, d, m, k)) =
    let same : (ns ≡ names) × (ws ≡ words) = same_fronts ns names ws words (sym d ∙ e) (m ∙ sym l) in
    let P : List (List ℕ) → Type 0 = λ n. IsLevelled c n ws t in
    let Q : List (List ℕ) → Type 0 = λ w. IsLevelled c names w t in
    one_levelled c names words r t h (subst Q same.1 (subst P same.0 k))

one_commanded : (first : List ℕ) (rest : List (List ℕ)) (r t : Result Job WordFault) → IsCommanded first rest r → IsCommanded first rest t → r ≡ t
one_commanded first rest r t (inl x) (inl y) = x.0 ∙ sym y.0
one_commanded first rest r t (inl x) (inr (c, e, h)) = absurd (x.1 c e)
one_commanded first rest r t (inr (c, e, h)) (inl y) = absurd (y.1 c e)
one_commanded first rest r t (inr (c, e, h)) (inr (d, i, k)) =
    let P : Command → Type 0 = λ b. AreNamed b rest t in
    one_named c rest r t h (subst P (one_command d c (sym i ∙ e)) k)

one_read : (words : List (List ℕ)) (r t : Result Job WordFault) → AreRead words r → AreRead words t → r ≡ t
one_read [] r t x y = x ∙ sym y
one_read (first ∷ rest) r t x y = one_commanded first rest r t x y

moved : (words all : List (List ℕ)) (r : Result Job WordFault) → words ≡ all → AreRead all r → AreRead words r
moved words all r e h = let P : List (List ℕ) → Type 0 = λ w. AreRead w r in subst P (sym e) h

first_read : (words : List (List ℕ)) (n : ℕ) (c : Command) (places groups : ℕ) (before : List (List ℕ)) (word : List ℕ) (fault : WordFault) (f : FirstAt words n c places groups before word)
    → IsFault c places groups before word (1 + name_count c + length before) fault → AreRead words (Err fault)
first_read words n c places groups before word fault f h =
    moved words (command_name c ∷ (f.names ++ (before ++ word ∷ f.after))) (Err fault) f.call.spells
    (inr (
      c,
      refl,
      inr (
        f.names,
        before ++ word ∷ f.after,
        refl,
        f.call.as_many,
        inr (
          f.call.level,
          (
            places,
            groups,
            f.in_force,
            inl (
              fault,
              refl,
              record {
                before = before;
                word = word;
                after = f.after;
                spells = refl;
                fine = f.fine;
                found = h;
              },
            ),
          ),
        ),
      ),
    ))

fine_read : (words : List (List ℕ)) (c : Command) (names settings : List (List ℕ)) (r : Result Job WordFault) → AllFine words c names settings → IsMade c names settings r → AreRead words r
fine_read words c names settings r f h =
    moved words (command_name c ∷ (names ++ settings)) r f.call.spells
    (inr (c, refl, inr (names, settings, refl, f.call.as_many, inr (f.call.level, (f.places, f.groups, f.in_force, inr (f.fine, h))))))

read_from : (words : List (List ℕ)) (r : Result Job WordFault) → WordsRead words r → AreRead words r
read_from words (Ok job) (c, names, settings, f, h) = fine_read words c names settings (Ok job) f (inr (job, refl, h))
read_from words (Err NoCommand) h = moved words [] (Err NoCommand) h refl
read_from words (Err UnknownCommand) (first, rest, e, h) = moved words (first ∷ rest) (Err UnknownCommand) e (inl (refl, h))
read_from words (Err MissingName) (c, rest, e, h) = moved words (command_name c ∷ rest) (Err MissingName) e (inr (c, refl, inl (refl, h)))
read_from words (Err LevelOutOfRange) (level, rest, e, h) =
    moved words (command_name commands.Levels ∷ (level ∷ rest)) (Err LevelOutOfRange) e (inr (commands.Levels, refl, inr (level ∷ [], rest, refl, refl, inl (refl, (refl, (level, refl, h))))))
read_from words (Err (UnknownSetting n)) (c, places, groups, before, word, f, h) = first_read words n c places groups before word (UnknownSetting n) f (inl (ap UnknownSetting f.at, h))
read_from words (Err (RepeatedSetting n)) (c, places, groups, before, word, f, h) = first_read words n c places groups before word (RepeatedSetting n) f (inr (inl (ap RepeatedSetting f.at, h)))
read_from words (Err (BadSetting n)) (c, places, groups, before, word, f, h) = first_read words n c places groups before word (BadSetting n) f (inr (inr (ap BadSetting f.at, h)))
read_from words (Err BoundsCross) (c, names, settings, s, f, h, k) = fine_read words c names settings (Err BoundsCross) f (inl (refl, (s, h, k)))
read_from words (Err Memory) h = absurd h

pub one_reading : (words : List (List ℕ)) (r t : Result Job WordFault) → WordsRead words r → WordsRead words t → r ≡ t
one_reading words r t h k = one_read words r t (read_from words r h) (read_from words t k)
