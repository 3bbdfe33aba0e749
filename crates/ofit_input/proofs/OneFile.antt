-- A told file is read in one way: its bytes, or one refusal.
use Rattle.std.proofs.Common.{◌≡◌, inl, inr, ℕ, ◌<◌, ◌≤◌, List, length, refl, sym, ap, ◌∙◌, subst, arith}
use Rattle.std.specs.FinMap.{get}
use Rattle.std.specs.Prelude.{Option, None, Some, Result, Ok, Err, IsSomeAnd}
use Rattle.ofit_outside.specs.Folder.{Held}
use Rattle.ofit_input.specs.declared.refusal.Which.{Which}
use Rattle.ofit_input.specs.declared.refusal.Refusal.{Refusal}
use Rattle.ofit_input.specs.declared.refusal.Refusal.TheVariants.{FileMissing, FileLong}
use Rattle.ofit_input.specs.Files.{file_limit, IsFile, FileRefusal, ReadGives, FileGives}
use Rattle.ofit_input.proofs.Results.{ok_same, err_same, ok_apart}

some_same : (xs ys : List ℕ) (o p : Option (List ℕ)) → o ≡ Some xs → p ≡ Some ys → o ≡ p → xs ≡ ys
some_same xs ys o p e h k = cc

pub one_file : (h : Held) (name xs ys : List ℕ) → IsFile (Some h) name xs → IsFile (Some h) name ys → xs ≡ ys
one_file h name xs ys f k = some_same xs ys (get h name) (get h name) f.there k.there refl

-- what is missing or too long has no bytes
missing : (o : Option (List ℕ)) (bytes : List ℕ) → o ≡ None → o ≡ Some bytes → ⊥
missing o bytes e h = cc

over : (limit n : ℕ) → limit < n → n ≤ limit → ⊥
over limit n l h = omega arith

long : (limit : ℕ) (o : Option (List ℕ)) (bytes : List ℕ) → IsSomeAnd o (λ xs. limit < length xs) → o ≡ Some bytes → length bytes ≤ limit → ⊥
long limit None bytes l e h = absurd l
long limit (Some xs) bytes l e h = over limit (length bytes) (subst (λ (ys : List ℕ). limit < length ys) (some_same xs bytes (Some xs) (Some bytes) refl refl e) l) h

missing_or_long : (limit : ℕ) (o : Option (List ℕ)) → o ≡ None → IsSomeAnd o (λ xs. limit < length xs) → ⊥
missing_or_long limit None e l = absurd l
missing_or_long limit (Some xs) e l = missing (Some xs) xs e refl

pub no_file : (h : Held) (name bytes : List ℕ) (kind : Which) (refusal : Refusal) → FileRefusal (Some h) name kind refusal → IsFile (Some h) name bytes → ⊥
no_file h name bytes kind (FileMissing which) r f = missing (get h name) bytes r.1 f.there
no_file h name bytes kind (FileLong which) r f = long file_limit (get h name) bytes r.1 f.there f.within
no_file h name bytes kind refusal r f = r

pub one_file_refusal : (h : Held) (name : List ℕ) (kind : Which) (a b : Refusal) → FileRefusal (Some h) name kind a → FileRefusal (Some h) name kind b → a ≡ b
one_file_refusal h name kind (FileMissing which) (FileMissing other) r t = ap FileMissing (r.0 ∙ sym t.0)
one_file_refusal h name kind (FileMissing which) (FileLong other) r t = absurd (missing_or_long file_limit (get h name) r.1 t.1)
one_file_refusal h name kind (FileMissing which) other r t = absurd t
one_file_refusal h name kind (FileLong which) (FileMissing other) r t = absurd (missing_or_long file_limit (get h name) t.1 r.1)
one_file_refusal h name kind (FileLong which) (FileLong other) r t = ap FileLong (r.0 ∙ sym t.0)
one_file_refusal h name kind (FileLong which) other r t = absurd t
one_file_refusal h name kind refusal other r t = absurd r

-- what is read in one way, but for want of memory
abbrev pub IsOneWay : {T E : Type 0} → (Result T E → Type 0) → E → Type 0
IsOneWay {T} {E} Reads memory = (r t : Result T E) → Reads r → Reads t → (r ≡ Err memory → ⊥) → (t ≡ Err memory → ⊥) → r ≡ t

-- a thing read isn't want of memory, and another fault isn't either
no_memory : {T E : Type 0} (memory fault : E) → (fault ≡ memory → ⊥) → Path (Result T E) (Err fault) (Err memory) → ⊥
no_memory {T} memory fault n e = n (err_same {T = T} fault memory e)

-- is given in one way
pub one_reading : {T E : Type 0} (Reads : Result T E → Type 0) (refused : E → Refusal) (memory : E) → IsOneWay Reads memory
    → (a b : Result T Refusal) → ReadGives Reads refused memory a → ReadGives Reads refused memory b → a ≡ b
one_reading {T} {E} Reads refused memory one (Ok x) (Ok y) r t = ap Ok (ok_same x y (one (Ok x) (Ok y) r t (ok_apart x memory) (ok_apart y memory)))
one_reading {T} {E} Reads refused memory one (Ok x) (Err refusal) r (fault, t, n, e) = absurd (ok_apart x fault (one (Ok x) (Err fault) r t (ok_apart x memory) (no_memory memory fault n)))
one_reading {T} {E} Reads refused memory one (Err refusal) (Ok y) (fault, r, n, e) t = absurd (ok_apart y fault (one (Ok y) (Err fault) t r (ok_apart y memory) (no_memory memory fault n)))
one_reading {T} {E} Reads refused memory one (Err refusal) (Err other) (fault, r, n, e) (last, t, m, d) =
    ap Err (e ∙ ap refused (err_same {T = T} fault last (one (Err fault) (Err last) r t (no_memory memory fault n) (no_memory memory last m))) ∙ sym d)

-- and so is what a file's bytes are read as
module _ {T E : Type 0} (Reads : List ℕ → Result T E → Type 0) (refused : E → Refusal) (memory : E) (one : (bytes : List ℕ) → IsOneWay (Reads bytes) memory) (h : Held) (name : List ℕ) (kind : Which) where
  same_bytes : (a b : Result T Refusal) (xs ys : List ℕ) → IsFile (Some h) name xs → IsFile (Some h) name ys → ReadGives (Reads xs) refused memory a → ReadGives (Reads ys) refused memory b → a ≡ b
  same_bytes a b xs ys f k x y =
      one_reading (Reads xs) refused memory (one xs) a b x (subst (λ (bytes : List ℕ). ReadGives (Reads bytes) refused memory b) (one_file h name ys xs k f) y)

  pub one_from_file : (a b : Result T Refusal) → FileGives Reads refused memory (Some h) name kind a → FileGives Reads refused memory (Some h) name kind b → a ≡ b
  one_from_file (Ok x) (Ok y) (xs, f, r) (ys, k, t) = same_bytes (Ok x) (Ok y) xs ys f k r t
  one_from_file (Ok x) (Err refusal) (xs, f, r) (inl t) = absurd (no_file h name xs kind refusal t f)
  one_from_file (Ok x) (Err refusal) (xs, f, r) (inr (ys, k, t)) = same_bytes (Ok x) (Err refusal) xs ys f k r t
  one_from_file (Err refusal) (Ok y) (inl r) (ys, k, t) = absurd (no_file h name ys kind refusal r k)
  one_from_file (Err refusal) (Ok y) (inr (xs, f, r)) (ys, k, t) = same_bytes (Err refusal) (Ok y) xs ys f k r t
  one_from_file (Err refusal) (Err other) (inl r) (inl t) = ap Err (one_file_refusal h name kind refusal other r t)
  one_from_file (Err refusal) (Err other) (inl r) (inr (ys, k, t)) = absurd (no_file h name ys kind refusal r k)
  one_from_file (Err refusal) (Err other) (inr (xs, f, r)) (inl t) = absurd (no_file h name xs kind other t f)
  one_from_file (Err refusal) (Err other) (inr (xs, f, r)) (inr (ys, k, t)) = same_bytes (Err refusal) (Err other) xs ys f k r t
