-- What the answers of one and of two maximum flows come to.
use Rattle.std.proofs.Common.{◌≡◌, ℕ, refl, sym, subst, Bool, List, length}
use Rattle.ofit_cut.specs.declared.balanced.Balanced.{Balanced}
use Rattle.ofit_cut.specs.declared.balanced.Balanced.TheVariants.{Flows, Above, Below}
use Rattle.ofit_cut.specs.declared.members.Members.{Members}
use Rattle.ofit_cut.specs.declared.span.Span.{Span}
use Rattle.ofit_cut.specs.Sets.{AreWithin}
use Rattle.ofit_cut.specs.Members.{AreNodes, has_node}
use Rattle.ofit_cut.specs.Barrier.{IsAbove, IsBelow}
use Rattle.ofit_cut.specs.Balanced.{Tells, IsAboveAnswer, IsBelowAnswer}
use Rattle.ofit_cut.proofs.Duality.{balanced_not_above, balanced_not_below, opened, opened-long, above-opened, above-from-opened, opened-not-below}

-- flows, or an upper set
pub above_at_once : (pairs : List (ℕ × ℕ)) (spans : List Span) (answer : Balanced) → AreWithin pairs (length spans) → Tells pairs spans answer → ((x : Members) → answer ≡ Below x → ⊥)
    → (set : ℕ → Bool) → IsAbove pairs spans set → IsAboveAnswer answer
above_at_once pairs spans (Flows amounts) inside told other set h = balanced_not_above pairs spans amounts inside told set h
above_at_once pairs spans (Above nodes) inside told other set h = tt
above_at_once pairs spans (Below nodes) inside told other set h = absurd (other nodes refl)

pub below_at_once : (pairs : List (ℕ × ℕ)) (spans : List Span) (answer : Balanced) → AreWithin pairs (length spans) → Tells pairs spans answer → ((x : Members) → answer ≡ Below x → ⊥)
    → (set : ℕ → Bool) → IsBelow pairs spans set → ((other : ℕ → Bool) → IsAbove pairs spans other → ⊥) → IsBelowAnswer answer
below_at_once pairs spans (Flows amounts) inside told other set h none = balanced_not_below pairs spans amounts inside told set h
below_at_once pairs spans (Above nodes) inside told other set h none = none (has_node nodes) told.1
below_at_once pairs spans (Below nodes) inside told other set h none = tt

within_opened : (pairs : List (ℕ × ℕ)) (spans : List Span) → AreWithin pairs (length spans) → AreWithin pairs (length (opened spans))
within_opened pairs spans inside = subst (AreWithin pairs) (sym (opened-long spans)) inside

-- no upper set stands against the spans where, with the greatest ends open, none was found
pub no_above : (pairs : List (ℕ × ℕ)) (spans : List Span) (answer : Balanced) → AreWithin pairs (length spans) → Tells pairs (opened spans) answer → ((x : Members) → answer ≡ Above x → ⊥)
    → (set : ℕ → Bool) → IsAbove pairs spans set → ⊥
no_above pairs spans (Flows amounts) inside told other set h = balanced_not_above pairs (opened spans) amounts (within_opened pairs spans inside) told set (above-opened pairs spans set h)
no_above pairs spans (Above nodes) inside told other set h = other nodes refl
no_above pairs spans (Below nodes) inside told other set h = opened-not-below pairs spans (has_node nodes) told.1

pub above_of_opened : (pairs : List (ℕ × ℕ)) (spans : List Span) (nodes : List ℕ) → Tells pairs (opened spans) (Above nodes) → Tells pairs spans (Above nodes)
above_of_opened pairs spans nodes told = (subst (λ (n : ℕ). AreNodes n nodes) (opened-long spans) told.0, above-from-opened pairs spans (has_node nodes) told.1)
