-- Each kind of line has a name of its own.
use Rattle.std.proofs.Common.{◌≡◌, ℕ, ◌+◌, List, [], ◌∷◌, Some, refl, cond}
use Rattle.std.proofs.Math.Dec.{eqb}
use Rattle.std.specs.Prelude.{slice_get}
use Rattle.ofit_num.proofs.Names.{own_name}
use Rattle.ofit_script.specs.declared.kind.Kind.{Kind}
use Rattle.ofit_script.specs.declared.kind.Kind.TheVariants.{Add, Remove, Value, Weight, Relate, Unrelate, Report, Sheet}
use Rattle.ofit_script.specs.Kinds.{kind_name, IsOfKind}

-- no two names have one sum of their bytes
abbrev mark : List ℕ → ℕ
mark [] = 0
mark (b ∷ bs) = b + mark bs

abbrev marked : ℕ → Kind
marked n = cond (eqb n 297) Add (cond (eqb n 654) Remove (cond (eqb n 541) Value (cond (eqb n 648) Weight (cond (eqb n 637) Relate (cond (eqb n 864) Unrelate (cond (eqb n 668) Report Sheet))))))

back : (k : Kind) → marked (mark (kind_name k)) ≡ k
back Add = refl
back Remove = refl
back Value = refl
back Weight = refl
back Relate = refl
back Unrelate = refl
back Report = refl
back Sheet = refl

one_name : (k j : Kind) → kind_name k ≡ kind_name j → k ≡ j
one_name = own_name kind_name (λ (t : List ℕ). marked (mark t)) back

same_field : (fields : List (List ℕ)) (a b : List ℕ) → slice_get fields 0 ≡ Some a → slice_get fields 0 ≡ Some b → a ≡ b
same_field fields a b h k = cc

-- a record is of one kind
pub one_kind : (fields : List (List ℕ)) (k j : Kind) → IsOfKind fields k → IsOfKind fields j → k ≡ j
one_kind fields k j h l = one_name k j (same_field fields (kind_name k) (kind_name j) h l)
