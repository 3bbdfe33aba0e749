-- Names that tell what they name.
use Rattle.std.proofs.Common.{◌≡◌, sym, ap, ◌∙◌}

-- what can be had back from its name has a name of its own
pub own_name : {A B : Type 0} (name : A → B) (named : B → A) → ((x : A) → named (name x) ≡ x) → (x y : A) → name x ≡ name y → x ≡ y
own_name name named back x y e = sym (back x) ∙ ap named e ∙ back y
