-- The components that are fitted, but for some that are left.
use Rattle.std.proofs.Common.{◌≡◌, ◌≢◌, ℕ, zero, suc, ◌+◌, ◌<◌, ◌≤◌, ◌⊎◌, inl, inr, List, ◌∷◌, sym, ◌∙◌, subst, arith, length, drop, get_or}
use Rattle.std.proofs.lemmas.Bool.{cases_order}
use Rattle.std.proofs.lemmas.List.{drop_more, drop_all}
use Rattle.std.specs.Prelude.{Contains}
use Rattle.ofit_num.specs.Fit.{LeastBestValues}
use Rattle.ofit_num.specs.Fraction.{Fraction}
use Rattle.ofit_num.specs.Meaning.{Meaning}
use Rattle.ofit_num.specs.Problem.{Problem}
use Rattle.ofit_order.specs.Component.{AreMembers}
use Rattle.ofit_order.specs.Relation.{Relation}
use Rattle.ofit_order.proofs.Uniqueness.{only_component}
use Rattle.ofit_fit.specs.Compose.{IsLeastBestByParts}
use Rattle.ofit_fit.specs.Part.{part_of, values_at}
use Rattle.ofit_fit.specs.Put.{ArePut}
use Rattle.ofit_fit.proofs.Fitted.{put_there, put_elsewhere}
use Rattle.ofit_fit.proofs.Ready.{same_members}

-- the values of all components but those that are left are least best for their parts
pub record AreFittedBut (order : Relation) (m : Meaning) (s : Problem) (left : List ℕ) (values : List Fraction) : Type 0 where
  pub count : length values ≡ s.count
  pub parts : (k : ℕ) (members : List ℕ) → (Contains left k → ⊥) → AreMembers order k members → LeastBestValues m (part_of s members) (values_at values members)

first_or : (k c : ℕ) (rest : List ℕ) → Contains (c ∷ rest) k → (c ≡ k) ⊎ Contains rest k
first_or k c rest (zero, l, e) = inl e
first_or k c rest (suc j, l, e) = inr (j, omega (arith, l), e)

pub fitted_next : (order : Relation) (m : Meaning) (s : Problem) (c : ℕ) (rest members : List ℕ) (picked before after : List Fraction) → AreMembers order c members → LeastBestValues m (part_of s members) picked → ArePut members picked before after
    → AreFittedBut order m s (c ∷ rest) before → AreFittedBut order m s rest after
fitted_next order m s c rest members picked before after are low put h = record {
  count = put.count ∙ h.count;
  parts = λ k others out x. by k others out x (cases_order k c);
} where
  own : (others : List ℕ) → AreMembers order c others → LeastBestValues m (part_of s others) (values_at after others)
  own others x =
      subst (λ (xs : List ℕ). LeastBestValues m (part_of s xs) (values_at after xs)) (same_members order c members others are x)
      (subst (LeastBestValues m (part_of s members)) (sym (put_there members picked before after low.count put)) low)

  other : (k : ℕ) (others : List ℕ) → k ≢ c → (Contains rest k → ⊥) → AreMembers order k others → LeastBestValues m (part_of s others) (values_at after others)
  other k others differs out x =
      subst (LeastBestValues m (part_of s others)) (sym (put_elsewhere members others picked before after apart put)) (h.parts k others not_left x)
    where
      apart : (g : ℕ) → Contains others g → Contains members g → ⊥
      apart g a b =
          let l = (x.exact g).0 a in
          let r = (are.exact g).0 b in
          differs (sym (only_component order l.0 c g l.1 l.2 r))

      not_left : Contains (c ∷ rest) k → ⊥
      not_left there = side (first_or k c rest there) where
        side : (c ≡ k) ⊎ Contains rest k → ⊥
        side (inl e) = differs (sym e)
        side (inr e) = out e

  by : (k : ℕ) (others : List ℕ) → (Contains rest k → ⊥) → AreMembers order k others → (k ≡ c) ⊎ ((k < c) ⊎ (c < k)) → LeastBestValues m (part_of s others) (values_at after others)
  by k others out x (inl e) = own others (subst (λ (j : ℕ). AreMembers order j others) e x)
  by k others out x (inr (inl l)) = other k others (λ e. omega (arith, e, l)) out x
  by k others out x (inr (inr l)) = other k others (λ e. omega (arith, e, l)) out x

pub fitted_step : (order : Relation) (m : Meaning) (s : Problem) (components : List ℕ) (i : ℕ) (members : List ℕ) (picked before after : List Fraction) → i < length components → AreMembers order (get_or components i 0) members → LeastBestValues m (part_of s members) picked → ArePut members picked before after
    → AreFittedBut order m s (drop i components) before → AreFittedBut order m s (drop (i + 1) components) after
fitted_step order m s components i members picked before after l are low put h =
    fitted_next order m s (get_or components i 0) (drop (i + 1) components) members picked before after are low put (subst (λ (xs : List ℕ). AreFittedBut order m s xs before) (drop_more components i 0 l) h)

pub fitted_whole : (order : Relation) (m : Meaning) (s : Problem) (components : List ℕ) (i : ℕ) (values : List Fraction) → length components ≤ i → AreFittedBut order m s (drop i components) values → IsLeastBestByParts order m s values
fitted_whole order m s components i values l h = record {
  count = h.count;
  parts = λ k members has are. h.parts k members (λ there. omega (arith, (subst (λ (xs : List ℕ). Contains xs k) (drop_all i components l) there).1)) are;
}
