-- What equal results say.
use Rattle.std.proofs.Common.{◌≡◌}
use Rattle.std.specs.Prelude.{Result, Ok, Err}

pub ok_same : {T E : Type 0} (x y : T) → Path (Result T E) (Ok x) (Ok y) → x ≡ y
ok_same x y e = cc

pub err_same : {T E : Type 0} (x y : E) → Path (Result T E) (Err x) (Err y) → x ≡ y
err_same x y e = cc

pub ok_apart : {T E : Type 0} (x : T) (y : E) → Ok x ≡ Err y → ⊥
ok_apart x y e = cc
