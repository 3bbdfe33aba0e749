-- Walks joined, turned round and followed.
use Rattle.std.proofs.Common.{ℕ, List, [], ◌∷◌, ◌++◌, refl, sym, subst}
use Rattle.ofit_order.specs.Connection.{IsWalkBy, IsReached}

IsWalkBy-push : (Step : ℕ → ℕ → Type 0) (a : ℕ) (walk : List ℕ) (b c : ℕ) → IsWalkBy Step a walk b → Step b c → IsWalkBy Step a (walk ++ c ∷ []) c
IsWalkBy-push Step a [] b c e s = (subst (λ (t : ℕ). Step t c) (sym e) s, refl)
IsWalkBy-push Step a (x ∷ walk) b c h s = (h.0, IsWalkBy-push Step x walk b c h.1 s)

-- what each step keeps, a walk keeps
IsWalkBy-keeps : (Step : ℕ → ℕ → Type 0) (P : ℕ → Type 0) → ((x y : ℕ) → P x → Step x y → P y) → (a : ℕ) (walk : List ℕ) (b : ℕ) → IsWalkBy Step a walk b → P a → P b
IsWalkBy-keeps Step P keeps a [] b e p = subst P e p
IsWalkBy-keeps Step P keeps a (x ∷ walk) b h p = IsWalkBy-keeps Step P keeps x walk b h.1 (keeps a x p h.0)

pub IsReached-keeps : (Step : ℕ → ℕ → Type 0) (P : ℕ → Type 0) → ((x y : ℕ) → P x → Step x y → P y) → (a b : ℕ) → IsReached Step a b → P a → P b
IsReached-keeps Step P keeps a b r p = IsWalkBy-keeps Step P keeps a r.walk b r.steps p

pub IsReached-refl : (Step : ℕ → ℕ → Type 0) (a : ℕ) → IsReached Step a a
IsReached-refl Step a = record { walk = []; steps = refl }

pub IsReached-cons : (Step : ℕ → ℕ → Type 0) (a b c : ℕ) → Step a b → IsReached Step b c → IsReached Step a c
IsReached-cons Step a b c s r = record { walk = b ∷ r.walk; steps = (s, r.steps) }

pub IsReached-push : (Step : ℕ → ℕ → Type 0) (a b c : ℕ) → IsReached Step a b → Step b c → IsReached Step a c
IsReached-push Step a b c r s = record { walk = r.walk ++ c ∷ []; steps = IsWalkBy-push Step a r.walk b c r.steps s }

pub IsReached-trans : (Step : ℕ → ℕ → Type 0) (a b c : ℕ) → IsReached Step a b → IsReached Step b c → IsReached Step a c
IsReached-trans Step a b c r s = IsReached-keeps Step (IsReached Step a) (λ x y p q. IsReached-push Step a x y p q) b c s r

-- a walk back, where each step can be taken back
pub IsReached-back : (Step Back : ℕ → ℕ → Type 0) → ((x y : ℕ) → Step x y → Back y x) → (a b : ℕ) → IsReached Step a b → IsReached Back b a
IsReached-back Step Back back a b r =
    IsReached-keeps Step (λ (t : ℕ). IsReached Back t a) (λ x y p s. IsReached-cons Back y x a (back x y s) p) a b r (IsReached-refl Back a)

-- the same walk by steps of another kind
pub IsReached-weaker : (Step Other : ℕ → ℕ → Type 0) → ((x y : ℕ) → Step x y → Other x y) → (a b : ℕ) → IsReached Step a b → IsReached Other a b
IsReached-weaker Step Other weaker a b r =
    IsReached-keeps Step (IsReached Other a) (λ x y p s. IsReached-push Other a x y p (weaker x y s)) a b r (IsReached-refl Other a)
