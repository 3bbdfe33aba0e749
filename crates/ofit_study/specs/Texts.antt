use Rattle.std.specs.Prelude.{ℕ, List}

-- the bytes of each text, in order
abbrev pub Texts : Type 0
Texts = List (List ℕ)
