-- The files that words name: their bytes, what these are read as, or why they aren't.
pub use Rattle.ofit_num.specs.declared.limits.TheConstants.{LONGEST_FILE as file_limit}
use Rattle.std.specs.Prelude.{◌≡◌, ◌⊎◌, ◌≤◌, ◌<◌, ℕ, List, length, Option, None, Some, Result, Ok, Err, IfSome, IsSomeAnd}
use Rattle.std.specs.FinMap.{get}
use Rattle.ofit_outside.specs.Folder.{Held}
use Rattle.ofit_input.specs.declared.refusal.Which.{Which}
use Rattle.ofit_input.specs.declared.refusal.Refusal.{Refusal}
use Rattle.ofit_input.specs.declared.refusal.Refusal.TheVariants.{FileMissing, FileLong}

-- these are the bytes of the file of this name: the held ones, where the folder tells
pub record IsFile (held : Option Held) (name bytes : List ℕ) : Type 0 where
  pub within : length bytes ≤ file_limit
  pub there : IfSome held (λ h. get h name ≡ Some bytes)

-- why the file of this name and kind isn't read: where the folder tells, it isn't held, or it is too long
abbrev pub FileRefusal : Option Held → List ℕ → Which → Refusal → Type 0
FileRefusal held name kind (FileMissing which) = (which ≡ kind) × IfSome held (λ h. get h name ≡ None)
FileRefusal held name kind (FileLong which) = (which ≡ kind) × IfSome held (λ h. IsSomeAnd (get h name) (λ bytes. file_limit < length bytes))
FileRefusal held name kind refusal = ⊥

-- what is read, or the refusal of its first fault; want of memory is no refusal
abbrev pub ReadGives : {T E : Type 0} → (Result T E → Type 0) → (E → Refusal) → E → Result T Refusal → Type 0
ReadGives Reads refused memory (Ok x) = Reads (Ok x)
ReadGives {T} {E} Reads refused memory (Err refusal) = (fault : E) × Reads (Err fault) × (fault ≡ memory → ⊥) × (refusal ≡ refused fault)

-- what the bytes of the file of this name and kind are read as, or the first refusal
abbrev pub FileGives : {T E : Type 0} → (List ℕ → Result T E → Type 0) → (E → Refusal) → E → Option Held → List ℕ → Which → Result T Refusal → Type 0
FileGives Reads refused memory held name kind (Ok x) = (bytes : List ℕ) × IsFile held name bytes × ReadGives (Reads bytes) refused memory (Ok x)
FileGives Reads refused memory held name kind (Err refusal) =
    FileRefusal held name kind refusal ⊎ ((bytes : List ℕ) × IsFile held name bytes × ReadGives (Reads bytes) refused memory (Err refusal))
