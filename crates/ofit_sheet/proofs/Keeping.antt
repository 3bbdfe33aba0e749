-- What is kept of a sheet's parts is kept of the sheet.
use Rattle.std.proofs.Common.{ℕ, ◌<◌, ℤ, pos, negsuc, List, [], ◌∷◌, map, Option, Some, None, arith}
use Rattle.std.specs.Prelude.{All, AllPairs, IfSome, ◌≤ℤ◌, unsigned_abs, option_map}
use Rattle.std.proofs.lemmas.Int.{ints}
use Rattle.std.proofs.lemmas.List.Elements.{All-map, All-weaker, All-cons, All-nil, All-head, All-tail}
use Rattle.std.proofs.lemmas.List.Kept.{AllPairs-cons}
use Rattle.ofit_num.specs.Fraction.{Fraction, IsLowest}
use Rattle.ofit_num.specs.Sheet as num
use Rattle.ofit_study.specs.declared.settings.Settings.{Settings}
use Rattle.ofit_sheet.specs.declared.size.Size.{Size}
use Rattle.ofit_sheet.specs.Kept.{IsKept, IsSizeInLimits, IsAmountInLimits, IsFractionInLimits, most_amount}
use Rattle.ofit_sheet.specs.Made.{HasParts}
use Rattle.ofit_sheet.specs.Parts.{size_of, entry_of, flow_of, sheet_of}
use Rattle.ofit_sheet.proofs.Rising.{pairs_head, pairs_tail}

module _ {X Y : Type 0} (f : Y → X) where
  pub all_unmapped : (P : X → Type 0) (ys : List Y) → All P (map f ys) → All (λ y. P (f y)) ys
  all_unmapped P [] h = All-nil (λ y. P (f y))
  all_unmapped P (y ∷ ys) h = All-cons (λ z. P (f z)) y ys (All-head P (f y) (map f ys) h) (all_unmapped P ys (All-tail P (f y) (map f ys) h))

  pub pairs_mapped : (R : X → X → Type 0) (ys : List Y) → AllPairs (λ a b. R (f a) (f b)) ys → AllPairs R (map f ys)
  pairs_mapped R [] h = λ i j d lt within. absurd (omega (arith, within))
  pairs_mapped R (y ∷ ys) h =
      AllPairs-cons R (f y) (map f ys) (All-map (R (f y)) f ys (pairs_head (λ (t : Y). 0) (λ a b. R (f a) (f b)) y ys h))
      (pairs_mapped R ys (pairs_tail (λ (t : Y). 0) (λ a b. R (f a) (f b)) y ys h))

pub amount_kept : (z : ℤ) → (pos 1 ≤ℤ z) × (z ≤ℤ pos most_amount) → IsAmountInLimits (unsigned_abs z)
amount_kept (pos n) h = record { least = omega (arith, ints, h.0); most = omega (arith, ints, h.1) }
amount_kept (negsuc n) h = absurd (omega (arith, ints, h.0))

size_kept : (size : Option Size) → IfSome size (λ z. IsSizeInLimits z.rows z.weight) → IfSome (option_map size_of size) (λ z. IsSizeInLimits z.rows z.weight)
size_kept None h = tt
size_kept (Some z) h = h

pub kept : (settings : Settings) (size : Option Size) (values : List (ℕ × Fraction)) (flows : List (ℕ × ℕ × ℤ)) → HasParts settings size values flows → IsKept (sheet_of settings size values flows)
kept settings size values flows h = record {
  settings = h.in_limits;
  size = size_kept size h.parts.sized;
  rising = pairs_mapped entry_of (λ e f. e.place < f.place) values h.parts.rising;
  fractions = All-map (λ e. IsFractionInLimits e.value) entry_of values h.fractions;
  amounts = All-map (λ f. IsAmountInLimits f.amount) flow_of flows (All-weaker (λ f. (pos 1 ≤ℤ f.2) × (f.2 ≤ℤ pos most_amount)) (λ f. IsAmountInLimits (flow_of f).amount) (λ f l. amount_kept f.2 l) flows h.parts.amounts);
}

pub fits_if : (n : ℕ) (settings : Settings) (size : Option Size) (values : List (ℕ × Fraction)) (flows : List (ℕ × ℕ × ℤ)) → HasParts settings size values flows
    → All (λ e. e.0 < n) values → All (λ f. (f.0 < n) × (f.1 < n)) flows → num.FitsCount n (sheet_of settings size values flows)
fits_if n settings size values flows h places ends =
    let k = kept settings size values flows h in
    record {
      places = All-map (λ e. e.place < n) entry_of values places;
      rising = k.rising;
      lowest = All-weaker (λ e. IsFractionInLimits e.value) (λ e. IsLowest e.value) (λ e l. l.lowest) (map entry_of values) k.fractions;
      ends = All-map (λ f. (f.low < n) × (f.high < n)) flow_of flows ends;
      amounts = All-weaker (λ f. IsAmountInLimits f.amount) (λ f. 0 < f.amount) (λ f l. l.least) (map flow_of flows) k.amounts;
    }

pub places_fit : (n : ℕ) (settings : Settings) (size : Option Size) (values : List (ℕ × Fraction)) (flows : List (ℕ × ℕ × ℤ)) → num.FitsCount n (sheet_of settings size values flows) → All (λ e. e.0 < n) values
places_fit n settings size values flows h = all_unmapped entry_of (λ e. e.place < n) values h.places

pub ends_fit : (n : ℕ) (settings : Settings) (size : Option Size) (values : List (ℕ × Fraction)) (flows : List (ℕ × ℕ × ℤ)) → num.FitsCount n (sheet_of settings size values flows) → All (λ f. (f.0 < n) × (f.1 < n)) flows
ends_fit n settings size values flows h = all_unmapped flow_of (λ f. (f.low < n) × (f.high < n)) flows h.ends
