-- What a study that can be fitted tells of its problem.
use Rattle.std.proofs.Common.{◌≡◌, ℕ, zero, suc, ◌+◌, ◌<◌, ◌≤◌, refl, ap, subst, arith, inl, inr, List, [], ◌∷◌, length, slice_index, ◌↔◌}
use Rattle.std.proofs.lemmas.List.Elements.{Contains-get_or, All-nil, All-cons, All-contains, All-head, All-tail}
use Rattle.std.specs.Prelude.{All, Result, IfOk, Vec}
use Rattle.std.specs.Global.{Global}
use Rattle.std.proofs.lemmas.Result.{IfOk-weaker}
use Rattle.ofit_num.specs.declared.frac.Frac.{Frac}
use Rattle.ofit_num.specs.Fit.{LeastBestValues}
use Rattle.std.specs.List.{Any, Contains}
use Rattle.std.specs.List.Sorted.{IsStrictlyIncreasing}
use Rattle.ofit_num.specs.declared.row.Row.{Row}
use Rattle.ofit_num.specs.Unbounded.{without_bounds}
use Rattle.ofit_num.specs.Problem.{Problem}
use Rattle.ofit_num.specs.Unbounded.{no_bounds}
use Rattle.ofit_num.specs.Meaning.{Meaning}
use Rattle.ofit_num.specs.Law.{HasScaling}
use Rattle.ofit_num.specs.RowTotals.{all_rows}
use Rattle.ofit_num.proofs.Pigeonhole.{distinct_few}
use Rattle.ofit_num.proofs.RowLists.{all_front, all_back}
use Rattle.ofit_order.specs.Relation.{Relation, ComesBefore}
use Rattle.ofit_order.specs.Connection.{LeadsUp, Joins}
use Rattle.ofit_order.specs.Component.{IsComponentOf, AreMembers}
use Rattle.ofit_order.specs.Numbers.{HasComponent}
use Rattle.ofit_order.proofs.Walks.{IsReached-refl}
use Rattle.ofit_order.proofs.Forming.{member_inside}
pub use Rattle.ofit_order.proofs.Shaping.{AreMembers-same as same_members}
use Rattle.ofit_loss.specs.Laws.{HasLossLaws}
use Rattle.ofit_loss.specs.Rows.{IsPlain}
use Rattle.ofit_loss.proofs.Plain.{some_plain}
use Rattle.ofit_loss.proofs.ProblemLaws.{groups_fittable, problem_scaling}
use Rattle.ofit_study.specs.Study.{Study, IsValid, names_of, groups_of, places_of, problem_stated}
use Rattle.ofit_study.proofs.Places.{group_count, pair_count}
use Rattle.ofit_study.proofs.Stating.{groups_filled}
use Rattle.ofit_span.proofs.Fittable.{all_plain, all_fittable}
use Rattle.ofit_fit.specs.Links.{AreWholeMembers}
use Rattle.ofit_fit.specs.Part.{part_of}
use Rattle.ofit_fit.specs.OrderOf.{IsOrderOf}
use Rattle.ofit_fit.specs.Piece.{IsFittable, ArePlaces}
use Rattle.ofit_fit.proofs.Closed.{IsClosed, distinct_from_increasing}

module _ (s : Study) (order : Relation) (fit : IsFittable s order) where
  pub scaling : (m : Meaning) (strict : _) → HasLossLaws m strict → HasScaling m (without_bounds (problem_stated s))
  scaling m strict laws = problem_scaling m strict laws (without_bounds (problem_stated s)) (groups_fittable (groups_of s) (places_of s) no_bounds fit.fittable)

  pub places_closed : (members : List ℕ) → ArePlaces s order members → IsClosed (without_bounds (problem_stated s)) members
  places_closed members are = record {
    distinct = distinct_from_increasing members are.rising;
    inside = λ p h. All-contains (λ g. g < length (groups_of s)) members p are.inside h;
    up = λ a b h c. (are.closed a b ((fit.of.pairs (a, b)).1 h)).0 c;
    down = λ a b h c. (are.closed a b ((fit.of.pairs (a, b)).1 h)).1 c;
  }

  pub whole_members : (members : List ℕ) → ArePlaces s order members → AreWholeMembers order.pairs members
  whole_members members are = record { in_order = fit.of.in_order; rising = are.rising; few = are.few; closed = are.closed }

-- each group of rows with numbers of observations has one
plain_groups : (groups : List (List Row)) → All (λ rows. 0 < length rows) groups → All IsPlain (all_rows groups) → All (λ rows. Any IsPlain rows) groups
plain_groups [] filled plain = All-nil (λ (rows : List Row). Any IsPlain rows)
plain_groups (rows ∷ groups) filled plain = All-cons (λ (rows : List Row). Any IsPlain rows) rows groups
    (some_plain rows (All-head (λ (rows : List Row). 0 < length rows) rows groups filled) (all_front IsPlain rows (all_rows groups) plain))
    (plain_groups groups (All-tail (λ (rows : List Row). 0 < length rows) rows groups filled) (all_back IsPlain rows (all_rows groups) plain))

pub before_apart : (e f : ℕ × ℕ) → ComesBefore e f → e ≡ f → ⊥
before_apart e f (inl l) same = omega (arith, l, ap (λ (p : ℕ × ℕ). p.0) same)
before_apart e f (inr l) same = omega (arith, l.1, ap (λ (p : ℕ × ℕ). p.1) same)

-- a valid study can be fitted by its order
pub study_fittable : (s : Study) (order : Relation) → IsValid s → IsOrderOf order (problem_stated s) → IsFittable s order
study_fittable s order valid of = record {
  of = of;
  filled = groups_filled s;
  plain = plain_groups (groups_of s) (groups_filled s) (all_plain s valid);
  fittable = all_fittable s valid;
  few_groups = omega (arith, valid.groups, group_count s);
  few_pairs = omega (
    arith,
    valid.pairs,
    distinct_few order.pairs (places_of s) (λ i j d l b. before_apart _ _ (of.in_order i j d l b)) (λ e h. (of.pairs e).0 h),
    pair_count s,
  );
}

-- each of the numbers that rise is at least its index
at_least : (members : List ℕ) → IsStrictlyIncreasing members → (k : ℕ) → k < length members → k ≤ slice_index members k
at_least members up zero l = omega arith
at_least members up (suc k) l =
    let step : suc k ≡ k + 1 = omega arith in
    omega (arith, at_least members up k (omega arith), up k (omega arith), ap (slice_index members) step)

-- members that rise and lie below n are at most n
pub few_members : (members : List ℕ) (n : ℕ) → IsStrictlyIncreasing members → All (λ g. g < n) members → length members ≤ n
few_members members n up inside = go (length members) refl where
  go : (k : ℕ) → length members ≡ k → k ≤ n
  go zero e = omega arith
  go (suc k) e = omega (arith, at_least members up k (omega (arith, e)), inside k 0 (omega (arith, e)))

-- the members of a component of a valid study's order
pub members_places : (s : Study) (order : Relation) → IsValid s → IsOrderOf order (problem_stated s) → (component : ℕ) (members : List ℕ) → HasComponent order component → AreMembers order component members
    → ((a b : ℕ) → LeadsUp order.pairs a b → Contains members a ↔ Contains members b) → ArePlaces s order members
members_places s order valid of component members has are closed =
    let inside : All (λ g. g < length (groups_of s)) members = λ k d l. omega (arith, of.places, member_inside order component members are _ (Contains-get_or members k d l)) in
    let named : length (groups_of s) ≡ length (names_of s) = group_count s in
    record {
      rising = are.rising;
      inside = inside;
      closed = closed;
      some = omega (arith, first.1);
      few = omega (arith, few_members members (length (groups_of s)) are.rising inside, named, valid.groups);
    }
  where
    lies : IsComponentOf order component (slice_index has.1.0 component)
    lies = (
      has.1.0,
      has.1.1,
      record {
        counted = omega (arith, has.2, has.1.2);
        inside = ((has.1.1.exact (slice_index has.1.0 component)).0 (Contains-get_or has.1.0 component 0 (omega (arith, has.2, has.1.2)))).inside;
        connected = IsReached-refl (Joins order.pairs) (slice_index has.1.0 component);
      },
    )

    first : Contains members (slice_index has.1.0 component)
    first = (are.exact (slice_index has.1.0 component)).1 lies

-- what holds for the component's list of members holds for each such list
pub for_members : {E : Type 0} (r : Result (Vec Frac Global) E) (m : Meaning) (s : Problem) (order : Relation) (component : ℕ) (members : List ℕ) → AreMembers order component members → IfOk r (λ values. LeastBestValues m (part_of s members) values.items)
    → IfOk r (λ values. (list : List ℕ) → AreMembers order component list → LeastBestValues m (part_of s list) values.items)
for_members r m s order component members are low = IfOk-weaker r _ _
    (λ (values : Vec Frac Global) (h : LeastBestValues m (part_of s members) values.items) list x. subst (λ (ms : List ℕ). LeastBestValues m (part_of s ms) values.items) (same_members order component members list are x) h) low
