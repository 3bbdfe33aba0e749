-- A table is read in one way, where its columns, its parts and its faults are.
use Rattle.std.proofs.Common.{◌≡◌, ◌+◌, ◌++◌, ◌∙◌, ℕ, List, [], ◌∷◌, Result, Ok, Err, length, inl, inr, sym, ap, subst}
use Rattle.ofit_num.proofs.Partings.{at_one, first_shorter, parted, second_shorter}
use Rattle.ofit_study.specs.Study.{Study}
use Rattle.ofit_table.specs.TableRead.{Table, HasFault, StudyRead, FaultRead, TableRead}

-- what a header and records say, they say in one way, and what has a fault says nothing else
pub record AreSure {C P F : Type 0} (t : Table C P F) : Type 0 where
  pub columns_one : (header : List (List ℕ)) (a b : C) → t.AreColumns header a → t.AreColumns header b → a ≡ b
  pub header_one : (header : List (List ℕ)) (f g : F) → t.HeaderFault header f → t.HeaderFault header g → f ≡ g
  pub header_good : (header : List (List ℕ)) (f : F) (columns : C) → t.HeaderFault header f → t.AreColumns header columns → ⊥
  pub parts_one : (columns : C) (records : List (List (List ℕ))) (parts others : List P) → t.AreParts columns records parts → t.AreParts columns records others → parts ≡ others
  pub fault_one : (columns : C) (parts : List P) (fields : List (List ℕ)) (number : ℕ) (f g : F) → t.RecordFault columns parts fields number f → t.RecordFault columns parts fields number g → f ≡ g
  pub fault_good : (columns : C) (before after : List (List (List ℕ))) (fields : List (List ℕ)) (parts all : List P) (number : ℕ) (f : F) → t.AreParts columns before parts → t.RecordFault columns parts fields number f
      → t.AreParts columns (before ++ fields ∷ after) all → ⊥
  pub made_one : (parts : List P) (s u : Study) → t.IsMade parts s → t.IsMade parts u → s ≡ u

module _ {C P F : Type 0} (t : Table C P F) (sure : AreSure t) where
  first_one : (columns : C) (records : List (List (List ℕ))) (f g : F) → HasFault t columns records f → HasFault t columns records g → f ≡ g
  first_one columns records f g h k =
      elim (parted h.before k.before h.after k.after h.fields k.fields (sym h.spells ∙ k.spells)) [
        | at_one e x ↦
            let parts : k.parts ≡ h.parts = sure.parts_one columns h.before k.parts h.parts (subst (λ (u : List (List (List ℕ))). t.AreParts columns u k.parts) (sym e) k.fine) h.fine in
            let moved : t.RecordFault columns h.parts k.fields (length k.before + 2) g = subst (λ (u : List P). t.RecordFault columns u k.fields (length k.before + 2) g) parts k.found in
            let placed : t.RecordFault columns h.parts k.fields (length h.before + 2) g = subst (λ (u : List (List (List ℕ))). t.RecordFault columns h.parts k.fields (length u + 2) g) (sym e) moved in
            sure.fault_one columns h.parts h.fields (length h.before + 2) f g h.found (subst (λ (u : List (List ℕ)). t.RecordFault columns h.parts u (length h.before + 2) g) (sym x) placed)
        | first_shorter r e ↦
            absurd (sure.fault_good columns h.before r h.fields h.parts k.parts (length h.before + 2) f h.fine h.found (subst (λ (u : List (List (List ℕ))). t.AreParts columns u k.parts) e k.fine))
        | second_shorter r e ↦
            absurd (sure.fault_good columns k.before r k.fields k.parts h.parts (length k.before + 2) g k.fine k.found (subst (λ (u : List (List (List ℕ))). t.AreParts columns u h.parts) e h.fine))
      ]

  none_first : (columns : C) (records : List (List (List ℕ))) (f : F) (all : List P) → HasFault t columns records f → t.AreParts columns records all → ⊥
  none_first columns records f all h k =
      sure.fault_good columns h.before h.after h.fields h.parts all (length h.before + 2) f h.fine h.found (subst (λ (u : List (List (List ℕ))). t.AreParts columns u all) h.spells k)

  study_one : (records : List (List (List ℕ))) (s u : Study) → StudyRead t records s → StudyRead t records u → s ≡ u
  study_one [] s u h k = absurd h
  study_one (header ∷ later) s u (c, parts, a, are, made) (d, others, b, too, making) =
      let columns : d ≡ c = sure.columns_one header d c b a in
      let same : others ≡ parts = sure.parts_one c later others parts (subst (λ (x : C). t.AreParts x later others) columns too) are in
      sure.made_one parts s u made (subst (λ (x : List P). t.IsMade x u) same making)

  fault_one : (records : List (List (List ℕ))) (f g : F) → FaultRead t records f → FaultRead t records g → f ≡ g
  fault_one [] f g h k = h ∙ sym k
  fault_one (header ∷ later) f g (inl h) (inl k) = sure.header_one header f g h k
  fault_one (header ∷ later) f g (inl h) (inr (d, b, k)) = absurd (sure.header_good header f d h b)
  fault_one (header ∷ later) f g (inr (c, a, h)) (inl k) = absurd (sure.header_good header g c k a)
  fault_one (header ∷ later) f g (inr (c, a, h)) (inr (d, b, k)) = first_one c later f g h (subst (λ (x : C). HasFault t x later g) (sure.columns_one header d c b a) k)

  not_both : (records : List (List (List ℕ))) (s : Study) (f : F) → StudyRead t records s → FaultRead t records f → ⊥
  not_both [] s f h k = h
  not_both (header ∷ later) s f (c, parts, a, are, made) (inl k) = sure.header_good header f c k a
  not_both (header ∷ later) s f (c, parts, a, are, made) (inr (d, b, k)) = none_first c later f parts (subst (λ (x : C). HasFault t x later f) (sure.columns_one header d c b a) k) are

  pub one_table : (records : List (List (List ℕ))) (a b : Result Study F) → TableRead t records a → TableRead t records b → (a ≡ Err t.memory → ⊥) → (b ≡ Err t.memory → ⊥) → a ≡ b
  one_table records (Ok s) (Ok u) h k m n = ap (λ (x : Study). Ok x) (study_one records s u h k)
  one_table records (Ok s) (Err g) h (inl e) m n = absurd (n (ap (λ (x : F). Err x) e))
  one_table records (Ok s) (Err g) h (inr k) m n = absurd (not_both records s g h k)
  one_table records (Err f) (Ok u) (inl e) k m n = absurd (m (ap (λ (x : F). Err x) e))
  one_table records (Err f) (Ok u) (inr h) k m n = absurd (not_both records u f k h)
  one_table records (Err f) (Err g) (inl e) k m n = absurd (m (ap (λ (x : F). Err x) e))
  one_table records (Err f) (Err g) (inr h) (inl e) m n = absurd (n (ap (λ (x : F). Err x) e))
  one_table records (Err f) (Err g) (inr h) (inr k) m n = ap (λ (x : F). Err x) (fault_one records f g h k)
