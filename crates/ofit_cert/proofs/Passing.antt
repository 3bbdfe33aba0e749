-- The sheet of best values with flows that certify them passes.
use Rattle.std.proofs.Common.{◌≡◌, ℕ, zero, suc, ◌<◌, List, [], ◌∷◌, length, refl, sym, ap, subst, ◌∙◌, arith, true, int_eq, get_or, map}
use Rattle.std.proofs.lemmas.Int.{ints}
use Rattle.std.proofs.lemmas.Bool.Decides.{Decides-int_eq}
use Rattle.std.proofs.lemmas.List.Elements.{All-head, All-tail, All-filter, All-weaker, All-contains_itself, filter_passes}
use Rattle.std.proofs.lemmas.List.Kept.{AllPairs-filter}
use Rattle.std.proofs.lemmas.Option.{slice_get-get_or}
use Rattle.std.specs.Prelude.{ℤ, pos, ◌*ℤ◌, ◌≤ℤ◌, All, AllPairs, Contains, IfSome, IsSome, slice_get, unwrap_or, Option, Some}
use Rattle.ofit_num.specs.Fraction.{Fraction, IsLowest, AtMost, SameValue}
use Rattle.ofit_num.specs.Fit.{BestValues}
use Rattle.ofit_num.specs.Flow.{Flow}
use Rattle.ofit_num.specs.Flow as num
use Rattle.ofit_num.specs.Meaning.{Meaning}
use Rattle.ofit_num.specs.Problem.{Problem}
use Rattle.ofit_num.specs.ProblemPairs.{HasPlaces}
use Rattle.ofit_num.specs.Sheet.{Sheet, Size, FitsCount, sheet_value}
use Rattle.ofit_num.specs.Span.{InOpenSpan}
use Rattle.ofit_num.specs.Trial.{value_of, scale_of}
use Rattle.ofit_num.specs.Verdict.{AllBelow, HasValue, RisesAlong, IsInBounds, IsOnPair, IsInOrder, JoinsEqual, IsBalanced, StandsBefore, AgreesInSize, Passes}
use Rattle.ofit_num.proofs.Order.{mul_pos, cancel_le_ℤ, assoc_swap}
use Rattle.ofit_num.proofs.Scaling.{above_equal, below_equal}
use Rattle.ofit_num.proofs.Trials.{value_of-den}
use Rattle.ofit_sheet.specs.Parts.{flow_of}
use Rattle.ofit_cert.specs.Tight.{own, is_tight, tight_among}
use Rattle.ofit_cert.specs.TightFlows.{Certify, flows_along}
use Rattle.ofit_cert.proofs.Entering.{entries, entries-value, places_below, places_rise, values_keep}
use Rattle.ofit_cert.proofs.Flowing.{flows_keep, flows_carry, flows_ordered, on_pair, pairs_stand, balances_kept}
use Rattle.ofit_cert.proofs.Spanning.{own_at}

is_equal : (x y : ℤ) → int_eq x y ≡ true → x ≡ y
is_equal x y e = grind (arith, Decides-int_eq)

-- what holds of all elements holds at each index
each_index : {X : Type 0} (P : X → Type 0) (xs : List X) → All P xs → AllBelow (λ i. IfSome (slice_get xs i) P) (length xs)
each_index P [] h i l = absurd (omega arith)
each_index P (x ∷ xs) h zero l = All-head P x xs h
each_index P (x ∷ xs) h (suc i) l = each_index P xs (All-tail P x xs h) i (omega arith)

-- x/c and y/c are a/p and b/q
at_most_from : (a b x y : ℤ) (p q c : ℕ) → 0 < c → x *ℤ pos p ≡ a *ℤ pos c → y *ℤ pos q ≡ b *ℤ pos c → x ≤ℤ y → (a *ℤ pos q) ≤ℤ (b *ℤ pos p)
at_most_from a b x y p q c l e f h = cancel_le_ℤ _ _ c l (omega (
  arith,
  ints,
  assoc_swap a (pos q) (pos c),
  assoc_swap b (pos p) (pos c),
  ap (λ (z : ℤ). z *ℤ pos q) e,
  ap (λ (z : ℤ). z *ℤ pos p) f,
  assoc_swap y (pos q) (pos p),
  mul_pos _ _ q (mul_pos x y p h),
))

-- a sheet of all values, and of flows along tight pairs
module _ {S : Type 0} (m : Meaning) (s : Problem) (own_settings : S) (size : Option Size) (fs : List Fraction) (amounts : List ℤ) (places : HasPlaces s) (lowest : All IsLowest fs) (best : BestValues m s fs) (certify : Certify m s fs (tight_among fs s.pairs) amounts)
    (sized : AgreesInSize s (record { settings = own_settings; size = size; values = []; flows = [] })) where
  abbrev flows : List Flow
  flows = map flow_of (flows_along (tight_among fs s.pairs) amounts)

  abbrev sheet : Sheet S
  sheet = record { settings = own_settings; size = size; values = entries fs; flows = flows }

  -- what each pair has, and each tight one
  on_flows : (P : ℕ × ℕ → Type 0) → All P s.pairs → All (λ f. P (f.low, f.high)) flows
  on_flows P h = flows_keep P (tight_among fs s.pairs) amounts (All-filter (is_tight fs) P s.pairs h)

  pub sheet_fits : FitsCount s.count sheet
  sheet_fits = record {
    places = places_below fs s.count best.count;
    rising = places_rise fs;
    lowest = values_keep IsLowest fs lowest;
    ends = on_flows (λ e. (e.0 < s.count) × (e.1 < s.count)) places;
    amounts = flows_carry (tight_among fs s.pairs) amounts certify.flows.high;
  }

  got : (g : ℕ) → g < s.count → slice_get fs g ≡ Some (own fs g)
  got g l = own_at fs g (omega (arith, l, best.count))

  value : (g : ℕ) → sheet_value sheet g ≡ own fs g
  value g = ap (λ (o : Option Fraction). unwrap_or o (record { num = pos 0; den = 1 })) (entries-value fs g)

  over : (g : ℕ) → g < s.count → value_of fs g *ℤ pos (own fs g).den ≡ (own fs g).num *ℤ pos (scale_of fs)
  over g l = value_of-den fs g (own fs g) (got g l)

  complete : AllBelow (HasValue sheet) s.count
  complete g l = some_is (entries-value fs g ∙ got g l) where
    some_is : {o : Option Fraction} → o ≡ Some (own fs g) → IsSome o
    some_is e = subst IsSome (sym e) refl

  rises : AllBelow (RisesAlong s sheet) (length s.pairs)
  rises = each_index (λ e. AtMost (sheet_value sheet e.0) (sheet_value sheet e.1)) s.pairs along where
    along : All (λ e. AtMost (sheet_value sheet e.0) (sheet_value sheet e.1)) s.pairs
    along k d l =
        subst (λ (c : Fraction). AtMost c (sheet_value sheet (get_or s.pairs k d).1)) (sym (value _))
        (subst (λ (c : Fraction). AtMost (own fs (get_or s.pairs k d).0) c) (sym (value _))
        (at_most_from _ _ _ _ _ _ (scale_of fs) best.best.obeys.scale (over _ (places k d l).0) (over _ (places k d l).1) (best.best.obeys.pairs k d l)))

  within : AllBelow (IsInBounds s sheet) s.count
  within g l = subst (λ (c : Fraction). IfSome (s.bounds g).lo (λ lo. (lo *ℤ pos c.den) ≤ℤ c.num) × IfSome (s.bounds g).hi (λ hi. c.num ≤ℤ (hi *ℤ pos c.den))) (sym (value g)) (
    above_equal (s.bounds g).lo (value_of fs g) (own fs g).num (scale_of fs) (own fs g).den best.best.obeys.scale (over g l) (best.best.obeys.low g l),
    below_equal (s.bounds g).hi (value_of fs g) (own fs g).num (scale_of fs) (own fs g).den best.best.obeys.scale (over g l) (best.best.obeys.high g l),
  )

  on_pairs : AllBelow (IsOnPair s sheet) (length flows)
  on_pairs = each_index (λ f. Contains s.pairs (f.low, f.high)) flows (on_flows (Contains s.pairs) (All-contains_itself s.pairs))

  ordered : AllPairs (StandsBefore s) flows
  ordered i j d l k =
      let stands : StandsBefore s (on_pair ((get_or flows i d).low, (get_or flows i d).high)) (on_pair ((get_or flows j d).low, (get_or flows j d).high)) =
      flows_ordered (λ e f. StandsBefore s (on_pair e) (on_pair f)) (tight_among fs s.pairs) amounts (AllPairs-filter (λ e f. StandsBefore s (on_pair e) (on_pair f)) (is_tight fs) s.pairs (pairs_stand s)) i j d l k in
      record { first = stands.first; second = stands.second; rises = stands.rises; first_pair = stands.first_pair; second_pair = stands.second_pair }

  in_order : AllBelow (IsInOrder s sheet) (length flows)
  in_order zero l = tt
  in_order (suc i) l = at (slice_get-get_or flows i d (omega arith)) (slice_get-get_or flows (suc i) d l) where
    d : Flow
    d = record { low = 0; high = 0; amount = 0 }

    at : slice_get flows i ≡ Some (get_or flows i d) → slice_get flows (suc i) ≡ Some (get_or flows (suc i) d) → IfSome (slice_get flows i) (λ f. IfSome (slice_get flows (suc i)) (λ h. StandsBefore s f h))
    at e f =
        subst (λ (o : Option Flow). IfSome o (λ f. IfSome (slice_get flows (suc i)) (λ h. StandsBefore s f h))) (sym e)
        (subst (λ (o : Option Flow). IfSome o (λ h. StandsBefore s (get_or flows i d) h)) (sym f) (ordered i (suc i) d (omega arith) l))

  tight : AllBelow (JoinsEqual sheet) (length flows)
  tight = each_index (λ f. SameValue (sheet_value sheet f.low) (sheet_value sheet f.high)) flows
      (flows_keep (λ e. SameValue (sheet_value sheet e.0) (sheet_value sheet e.1)) (tight_among fs s.pairs) amounts (All-weaker (λ e. is_tight fs e ≡ true) (λ e. SameValue (sheet_value sheet e.0) (sheet_value sheet e.1)) same (tight_among fs s.pairs) (filter_passes (is_tight fs) s.pairs)))
    where
      same : (e : ℕ × ℕ) → is_tight fs e ≡ true → SameValue (sheet_value sheet e.0) (sheet_value sheet e.1)
      same e h = subst (λ (c : Fraction). SameValue c (sheet_value sheet e.1)) (sym (value e.0)) (subst (λ (c : Fraction). SameValue (own fs e.0) c) (sym (value e.1)) (is_equal _ _ h))

  balances : AllBelow (IsBalanced m s sheet) s.count
  balances g l =
      subst (λ (c : Fraction). InOpenSpan m (s.rows g) (s.bounds g) c.num c.den (num.balance flows g)) (sym (value g))
      (subst (λ (z : ℤ). InOpenSpan m (s.rows g) (s.bounds g) (own fs g).num (own fs g).den z) (balances_kept (tight_among fs s.pairs) amounts certify.flows.low g) (certify.balances g l))

  pub sheet_passes : Passes m s own_settings sheet
  sheet_passes = record {
    tight = record {
      in_order = record {
        on_pairs = record {
          within_bounds = record {
            obedient = record { complete = record { sized = record { settings = refl; size = sized }; complete = complete }; rises = rises };
            within = within;
          };
          on_pairs = on_pairs;
        };
        in_order = in_order;
      };
      tight = tight;
    };
    balances = balances;
  }
