-- Names of groups.
use Rattle.std.specs.Prelude.{ℕ, ◌≤◌, ◌≢◌, List, length, All, IsUtf8}
use Rattle.ofit_num.specs.declared.limits.TheConstants.{LONGEST_NAME}

-- no control byte
abbrev pub IsNameByte : ℕ → Type 0
IsNameByte b = (32 ≤ b) × (b ≢ 127)

-- 1 to 64 bytes of UTF-8, none below 0x20 and none 0x7F
pub record IsName (bytes : List ℕ) : Type 0 where
  pub some : 1 ≤ length bytes
  pub most : length bytes ≤ LONGEST_NAME
  pub plain : All IsNameByte bytes
  pub text : IsUtf8 bytes
