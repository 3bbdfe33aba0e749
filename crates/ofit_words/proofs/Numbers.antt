-- numbers that are in a range, or none
use Rattle.std.proofs.Common.{◌≡◌, ℕ, List, [], ◌∷◌, sym, subst}
use Rattle.std.specs.Prelude.{Bool, true, false, Option, Some, None, is_some, MatchOption, MatchBool}
use Rattle.ofit_words.specs.declared.command.Command.{Command}
use Rattle.ofit_words.specs.declared.command.Command.TheVariants.{Levels}
use Rattle.ofit_words.specs.Values.{IsNumberIn}
use Rattle.ofit_words.specs.Words.{IsLevel}
use Rattle.ofit_words.specs.Made.{IsNoLevel}
use Rattle.ofit_words.proofs.Settled.{not_true, not_false}

-- the key may have the value exactly where it is read
pub good_if : {A : Type 0} (P : A → Type 0) (r : Option A) (b : Bool) → b ≡ is_some r → MatchOption r ((x : A) → P x → ⊥) P → MatchBool b ((x : A) × P x) (((x : A) × P x) → ⊥)
good_if P (Some x) true e h = (x, h)
good_if P (Some x) false e h = absurd (not_true e)
good_if P None true e h = absurd (not_false e)
good_if P None false e h = λ (x, p). h x p

-- the one name is a level exactly where it is read
pub level_if : (r : Option ℕ) (b : Bool) (command : Command) (names : List (List ℕ)) (level text : List ℕ) → command ≡ Levels → names ≡ level ∷ [] → text ≡ level → b ≡ is_some r
    → MatchOption r ((n : ℕ) → IsNumberIn 1 34 text n → ⊥) (λ n. IsNumberIn 1 34 text n) → MatchBool b (command ≡ Levels → (k : ℕ) × IsLevel names k) (IsNoLevel command names)
level_if (Some n) true command names level text c e t h m = λ i. (n, (level, e, (let P : List ℕ → Type 0 = λ s. IsNumberIn 1 34 s n in subst P t m)))
level_if (Some n) false command names level text c e t h m = absurd (not_true h)
level_if None true command names level text c e t h m = absurd (not_false h)
level_if None false command names level text c e t h m = (c, (level, e, λ k i. m k (let P : List ℕ → Type 0 = λ s. IsNumberIn 1 34 s k in subst P (sym t) i)))

pub no_level : (command : Command) (names : List (List ℕ)) (level text : List ℕ) → command ≡ Levels → names ≡ level ∷ [] → text ≡ level → ((n : ℕ) → IsNumberIn 1 34 text n → ⊥) → IsNoLevel command names
no_level command names level text c e t m = (c, (level, e, λ k i. m k (let P : List ℕ → Type 0 = λ s. IsNumberIn 1 34 s k in subst P (sym t) i)))
