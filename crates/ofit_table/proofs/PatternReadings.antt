-- A pattern is read in one way.
use Rattle.std.proofs.Common.{◌≡◌, ◌≢◌, ◌∙◌, ℕ, List, Result, Ok, Err, length, refl, sym, ap, subst}
use Rattle.std.specs.Prelude.{AllPairs}
use Rattle.ofit_study.specs.declared.pattern.Pattern.{Pattern}
use Rattle.ofit_study.specs.declared.pattern.Pattern.TheVariants.{NoPairs, Chain, Umbrella, Tree}
use Rattle.ofit_study.specs.Study.{HasPairs, Study, names_of}
use Rattle.ofit_study.proofs.GroupNames.{group_names-distinct}
use Rattle.ofit_table.specs.declared.fault.OrderFault.{OrderFault}
use Rattle.ofit_table.specs.declared.fault.OrderFault.TheVariants.{NoGroup, Memory}
use Rattle.ofit_num.specs.Pairs.{tree_pairs, umbrella_pairs}
use Rattle.ofit_table.specs.PatternRead.{ArePatternPairs, PatternRead}
use Rattle.ofit_study.proofs.Places.{named_place}
use Rattle.ofit_table.proofs.NamedPairs.{paired_one}
use Rattle.ofit_table.proofs.Places.{nowhere}

module _ (names : List (List ℕ)) (apart : AllPairs (λ a b. a ≢ b) names) where
  pub shape_one : (pattern : Pattern) (pairs others : List (ℕ × ℕ)) → ArePatternPairs pattern names (Ok pairs) → ArePatternPairs pattern names (Ok others) → pairs ≡ others
  shape_one NoPairs pairs others h k = h ∙ sym k
  shape_one Chain pairs others h k = h ∙ sym k
  shape_one (Umbrella name) pairs others h k = h.2 ∙ ap (λ (t : ℕ). umbrella_pairs t (length names)) (named_place names name h.0 k.0 apart h.1 k.1) ∙ sym k.2
  shape_one (Tree name) pairs others h k = h.2 ∙ ap (λ (t : ℕ). tree_pairs t (length names)) (named_place names name h.0 k.0 apart h.1 k.1) ∙ sym k.2

  -- a pattern with pairs has no fault, and the fault of one without is told
  pub no_fault : (pattern : Pattern) (fault : OrderFault) (pairs : List (ℕ × ℕ)) → ArePatternPairs pattern names (Err fault) → (fault ≡ Memory → ⊥) → ArePatternPairs pattern names (Ok pairs) → ⊥
  no_fault (Umbrella name) NoGroup pairs h denied k = nowhere names name k.0 h k.1
  no_fault (Tree name) NoGroup pairs h denied k = nowhere names name k.0 h k.1
  no_fault pattern Memory pairs h denied k = absurd (denied refl)
  no_fault pattern fault pairs h denied k = absurd h

  pub no_group : (pattern : Pattern) (fault : OrderFault) → ArePatternPairs pattern names (Err fault) → (fault ≡ Memory → ⊥) → fault ≡ NoGroup
  no_group pattern NoGroup h denied = refl
  no_group pattern Memory h denied = absurd (denied refl)
  no_group NoPairs fault h denied = absurd h
  no_group Chain fault h denied = absurd h
  no_group (Umbrella name) fault h denied = absurd h
  no_group (Tree name) fault h denied = absurd h

module _ (pattern : Pattern) (study : Study) where
  not_both : (s : Study) (fault : OrderFault) → PatternRead pattern study (Ok s) → PatternRead pattern study (Err fault) → (fault ≡ Memory → ⊥) → ⊥
  not_both s fault h k denied = no_fault (names_of study) (group_names-distinct study.rows) pattern fault h.0 k denied h.1

  given : (fault : OrderFault) → PatternRead pattern study (Err fault) → (fault ≡ Memory → ⊥) → fault ≡ NoGroup
  given fault h denied = no_group (names_of study) (group_names-distinct study.rows) pattern fault h denied

  pub one_pattern : (a b : Result Study OrderFault) → PatternRead pattern study a → PatternRead pattern study b → (a ≡ Err Memory → ⊥) → (b ≡ Err Memory → ⊥) → a ≡ b
  one_pattern (Ok s) (Ok t) h k u v =
      let same : k.0 ≡ h.0 = shape_one (names_of study) (group_names-distinct study.rows) pattern k.0 h.0 k.1 h.1 in
      ap (λ (x : Study). Ok x) (paired_one study h.0 s t h.2 (subst (λ (x : List (ℕ × ℕ)). HasPairs study x t) same k.2))
  one_pattern (Ok s) (Err g) h k u v = absurd (not_both s g h k (λ e. v (ap (λ (x : OrderFault). Err x) e)))
  one_pattern (Err f) (Ok t) h k u v = absurd (not_both t f k h (λ e. u (ap (λ (x : OrderFault). Err x) e)))
  one_pattern (Err f) (Err g) h k u v =
      ap (λ (x : OrderFault). Err x) (given f h (λ e. u (ap (λ (x : OrderFault). Err x) e)) ∙ sym (given g k (λ e. v (ap (λ (x : OrderFault). Err x) e))))
