-- The least and the greatest of some values, one by one.
use Rattle.std.proofs.Common.{◌≡◌, ◌≤◌, ◌<◌, ◌+◌, ℕ, true, false, List, length, get_or, take, sym, subst, arith}
use Rattle.std.specs.Prelude.{All, Contains, ℤ, pos, ◌*ℤ◌, ◌≤ℤ◌, ◌<ℤ◌}
use Rattle.std.specs.Ordering.{MatchOrdering, int_cmp, is_lt}
use Rattle.std.specs.declared.cmp.Ordering.{Ordering}
use Rattle.std.specs.declared.cmp.Ordering.TheVariants.{Less, Equal, Greater}
use Rattle.std.proofs.lemmas.Cmp.{int_ranked}
use Rattle.std.proofs.lemmas.Int.{ints}
use Rattle.std.proofs.lemmas.List.{take_all}
use Rattle.std.proofs.lemmas.List.Elements.{All-contains, All-more, All-take, Contains-get_or}
use Rattle.ofit_num.specs.Fraction.{AtMost, Fraction, IsLowest}
use Rattle.ofit_num.proofs.Division.{at_most_trans}
use Rattle.ofit_sample.specs.SampleText.{IsGreatestOf, IsLeastOf}

-- so far it is the least, and the greatest
pub record IsLeastUpto (values : List Fraction) (i : ℕ) (least : Fraction) : Type 0 where
  pub among : Contains values least
  pub most : All (AtMost least) (take i values)

pub record IsGreatestUpto (values : List Fraction) (i : ℕ) (greatest : Fraction) : Type 0 where
  pub among : Contains values greatest
  pub least : All (λ value. AtMost value greatest) (take i values)

ranked : (x y : ℤ) (r : Ordering) → MatchOrdering r (x <ℤ y) (x ≡ y) (y <ℤ x) → (is_lt r ≡ true → x ≤ℤ y) × (is_lt r ≡ false → y ≤ℤ x)
ranked x y Less h = (λ e. omega (arith, ints, h), λ e. absurd cc)
ranked x y Equal h = (λ e. absurd cc, λ e. omega (arith, ints, h))
ranked x y Greater h = (λ e. absurd cc, λ e. omega (arith, ints, h))

pub is_less : (a b : Fraction) (r : Ordering) → r ≡ int_cmp (a.num *ℤ pos b.den) (b.num *ℤ pos a.den) → (is_lt r ≡ true → AtMost a b) × (is_lt r ≡ false → AtMost b a)
is_less a b r e = ranked (a.num *ℤ pos b.den) (b.num *ℤ pos a.den) r (int_ranked (a.num *ℤ pos b.den) (b.num *ℤ pos a.den) r e)

at_most_itself : (v : Fraction) → AtMost v v
at_most_itself v = omega (arith, ints)

module _ (values : List Fraction) (lowest : All IsLowest values) (i : ℕ) (value : Fraction) (inside : i < length values) (at : value ≡ get_or values i value) where
  here : Contains values value
  here = subst (Contains values) (sym at) (Contains-get_or values i value inside)

  den : (v : Fraction) → Contains values v → 0 < v.den
  den v c = (All-contains IsLowest values v lowest c).den

  den_before : (k : ℕ) (d : Fraction) → k < length (take i values) → 0 < (get_or (take i values) k d).den
  den_before k d l = (All-take IsLowest i values lowest k d l).den

  -- the least one stays, or the value is less
  pub least_stays : (least : Fraction) → IsLeastUpto values i least → AtMost least value → IsLeastUpto values (i + 1) least
  least_stays least h le = record {
    among = h.among;
    most = All-more (AtMost least) values i value inside h.most (subst (AtMost least) at le);
  }

  pub least_falls : (least : Fraction) → IsLeastUpto values i least → AtMost value least → IsLeastUpto values (i + 1) value
  least_falls least h le = record {
    among = here;
    most = All-more (AtMost value) values i value inside (λ k d l. at_most_trans value least (get_or (take i values) k d) (den value here) (den least h.among) (den_before k d l) le (h.most k d l)) (subst (AtMost value) at (at_most_itself value));
  }

  pub greatest_stays : (greatest : Fraction) → IsGreatestUpto values i greatest → AtMost value greatest → IsGreatestUpto values (i + 1) greatest
  greatest_stays greatest h le = record {
    among = h.among;
    least = All-more (λ v. AtMost v greatest) values i value inside h.least (subst (λ (v : Fraction). AtMost v greatest) at le);
  }

  pub greatest_rises : (greatest : Fraction) → IsGreatestUpto values i greatest → AtMost greatest value → IsGreatestUpto values (i + 1) value
  greatest_rises greatest h le = record {
    among = here;
    least = All-more (λ v. AtMost v value) values i value inside (λ k d l. at_most_trans (get_or (take i values) k d) greatest value (den_before k d l) (den greatest h.among) (den value here) (h.least k d l) le) (subst (λ (v : Fraction). AtMost v value) at (at_most_itself value));
  }

pub least_of_all : (values : List Fraction) (i : ℕ) (least : Fraction) → length values ≤ i → IsLeastUpto values i least → IsLeastOf values least
least_of_all values i least all h = record { among = h.among; most = subst (All (AtMost least)) (take_all i values all) h.most }

pub greatest_of_all : (values : List Fraction) (i : ℕ) (greatest : Fraction) → length values ≤ i → IsGreatestUpto values i greatest → IsGreatestOf values greatest
greatest_of_all values i greatest all h = record { among = h.among; least = subst (All (λ v. AtMost v greatest)) (take_all i values all) h.least }
