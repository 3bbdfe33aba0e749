-- The places, the pairs and the values of a valid study.
use Rattle.std.proofs.Common.{◌≡◌, ℕ, ◌+◌, ◌-◌, ◌<◌, List, [], ◌∷◌, ◌++◌, length, get_or, sym, ap, subst, ◌∙◌, arith, below_more}
use Rattle.std.proofs.lemmas.List.{get_or_append_left, get_or-append_right}
use Rattle.std.proofs.lemmas.List.Elements.{All-filter}
use Rattle.std.specs.Prelude.{Contains, ◌↔◌}
use Rattle.ofit_num.specs.Fraction.{Fraction}
use Rattle.ofit_order.specs.Relation.{Relation}
use Rattle.ofit_order.specs.Within.{AreWithin}
use Rattle.ofit_study.specs.Study.{Study, IsValid, names_of, groups_of, places_of}
use Rattle.ofit_study.proofs.Places.{group_count}
use Rattle.ofit_study.proofs.Stating.{pairs_have_places}
use Rattle.ofit_report.specs.Tight.{is_tight, tight_among}
use Rattle.ofit_report.specs.SameOrder.{IsSameOrder}

-- tight pairs are between places
pub tight_within : (s : Study) → IsValid s → (values : List Fraction) (pairs : List (ℕ × ℕ)) (n : ℕ) → pairs ≡ tight_among values (places_of s) → n ≡ length (names_of s) → AreWithin pairs n
tight_within s v values pairs n e c =
    subst (λ (t : List (ℕ × ℕ)). AreWithin t n) (sym e)
    (subst (λ (k : ℕ). AreWithin (tight_among values (places_of s)) k) (group_count s ∙ sym c)
    (All-filter (is_tight values) (λ e. (e.0 < length (groups_of s)) × (e.1 < length (groups_of s))) (places_of s) (pairs_have_places s v)))

-- what holds of each item so far, and of one more
pub pushed : {X : Type 0} (P : ℕ → X → Type 0) (d : X) (xs ys : List X) (n : ℕ) (y : X) → length xs ≡ n → ys ≡ xs ++ y ∷ [] → ((k : ℕ) → k < n → P k (get_or xs k d)) → P n y → (k : ℕ) → k < n + 1 → P k (get_or ys k d)
pushed {X} P d xs ys n y long new before here =
    below_more (λ k. P k (get_or ys k d)) n
    (λ k l. subst (P k) (sym (ap (λ (t : List X). get_or t k d) new ∙ get_or_append_left xs (y ∷ []) d k (omega arith))) (before k l))
    (subst (P n) (sym (ap (λ (t : List X). get_or t n d) new ∙ last)) here)
  where
    last : get_or (xs ++ y ∷ []) n d ≡ y
    last = get_or-append_right xs (y ∷ []) n n d long (omega arith) ∙ ap (λ (k : ℕ). get_or (y ∷ []) k d) (none n) where
      none : (n : ℕ) → n - n ≡ 0
      none n = omega arith

pub same_pairs : (order : Relation) (n : ℕ) (pairs these : List (ℕ × ℕ)) → order.places ≡ n → pairs ≡ these → ((e : ℕ × ℕ) → Contains order.pairs e ↔ Contains pairs e) → IsSameOrder order (record { places = n; pairs = these })
same_pairs order n pairs these count is same = record { places = count; pairs = subst (λ (t : List (ℕ × ℕ)). (e : ℕ × ℕ) → Contains order.pairs e ↔ Contains t e) is same }
