-- What records without a fault make, and where the first one with a fault stands.
use Rattle.std.proofs.Common.{◌≡◌, ℕ, ◌+◌, ◌≤◌, ◌<◌, ◌^◌, ℤ, pos, Bool, List, [], ◌∷◌, ◌++◌, length, Option, Some, None, Err, refl, sym, ap, subst, ◌∙◌, arith}
use Rattle.std.specs.Prelude.{All, IfSome, ◌≤ℤ◌, slice_get, unsigned_abs}
use Rattle.std.specs.List.{filter_map, cons_option}
use Rattle.std.proofs.lemmas.Int.{ints}
use Rattle.std.proofs.lemmas.List.Elements.{All-nil, All-cons, All-head, All-weaker}
use Rattle.std.proofs.lemmas.Option.{slice_get_within}
use Rattle.ofit_num.specs.Fraction.{Fraction}
use Rattle.ofit_num.specs.Sheet as num
use Rattle.ofit_study.specs.Loss.{IsListed}
use Rattle.ofit_study.specs.Settings.{InLimits, IsBoundInLimits, InOrder}
use Rattle.ofit_sheet.specs.declared.size.Size as size
use Rattle.ofit_sheet.specs.declared.draft.Draft.{Draft}
use Rattle.ofit_sheet.specs.declared.header.Header.{Header}
use Rattle.ofit_sheet.specs.declared.item.Item.{Item}
use Rattle.ofit_sheet.specs.declared.item.Item.TheVariants as it
use Rattle.ofit_sheet.specs.declared.fault.SheetFault.{SheetFault}
use Rattle.ofit_sheet.specs.declared.fault.SheetFault.TheVariants as fault
use Rattle.ofit_sheet.specs.Kept.{IsSizeInLimits, IsFractionInLimits, most_amount}
use Rattle.ofit_sheet.specs.Made.{ArePartsOfSheet}
use Rattle.ofit_sheet.specs.Parts.{sheet_of}
use Rattle.ofit_sheet.specs.Frame.{IsGood, AreGood, Rules, StopsAt, HasBadHeader}
use Rattle.ofit_sheet.specs.Rules.{value_in, flow_in, values_of, flows_of, sheet_rules}
use Rattle.ofit_sheet.specs.Spelling.{IsHeader}
use Rattle.ofit_sheet.specs.SheetRead.{bounds_in, size_in, first_bounds, first_size, settings_of, sheet_spelled, sheet_grammar, SheetRead}
use Rattle.ofit_sheet.specs.Steps.{StopsBehind, HeaderRead, RestRead}
use Rattle.ofit_sheet.specs.Told.{Told, seen, told_of}
use Rattle.ofit_sheet.proofs.Keeping.{fits_if}
use Rattle.ofit_sheet.proofs.Rising.{rising_pairs}
use Rattle.ofit_sheet.proofs.Telling.{place, good_rising, good-length}

put_before : {X : Type 0} (P : X → Type 0) (o : Option X) (xs : List X) → IfSome o P → All P xs → All P (cons_option o xs)
put_before P None xs h r = r
put_before P (Some y) xs h r = All-cons P y xs h r

one_longer : {X : Type 0} (o : Option X) (xs : List X) (n : ℕ) → length xs ≤ n → length (cons_option o xs) ≤ n + 1
one_longer None xs n h = omega (arith, h)
one_longer (Some y) xs n h = omega (arith, h)

module _ (names : List (List ℕ)) (sized : Bool) where
  -- what each good record tells is so of all that they tell
  pub good_told : {X : Type 0} (f : Item → Option X) (P : X → Type 0) → ((before : List Item) (fields : List (List ℕ)) (item : Item) → IsGood (sheet_rules names sized) before fields item → IfSome (f item) P)
      → (before : List Item) (rows : List (List (List ℕ))) (items : List Item) → AreGood (sheet_rules names sized) before rows items → All P (filter_map f items)
  good_told f P each before [] [] g = All-nil P
  good_told f P each before [] (x ∷ items) g = absurd g
  good_told f P each before (row ∷ rows) [] g = absurd g
  good_told f P each before (row ∷ rows) (x ∷ items) g = put_before P (f x) (filter_map f items) (each before row x g.0) (good_told f P each (before ++ x ∷ []) rows items g.1)

  bounds_told : (before : List Item) (fields : List (List ℕ)) (item : Item) → IsGood (sheet_rules names sized) before fields item → IfSome (bounds_in item) (λ b. IsBoundInLimits b.0 × IsBoundInLimits b.1 × InOrder b.0 b.1)
  bounds_told before fields (it.Bounds lo hi) g = (g.within.0, g.within.1, g.spells.1.1)
  bounds_told before fields (it.Size z) g = tt
  bounds_told before fields (it.Value p v) g = tt
  bounds_told before fields (it.Flow low high amount) g = tt
  bounds_told before fields it.End g = tt

  size_told : (before : List Item) (fields : List (List ℕ)) (item : Item) → IsGood (sheet_rules names sized) before fields item → IfSome (size_in item) (λ z. IsSizeInLimits z.rows z.weight)
  size_told before fields (it.Bounds lo hi) g = tt
  size_told before fields (it.Size z) g = g.within
  size_told before fields (it.Value p v) g = tt
  size_told before fields (it.Flow low high amount) g = tt
  size_told before fields it.End g = tt

  value_told : (before : List Item) (fields : List (List ℕ)) (item : Item) → IsGood (sheet_rules names sized) before fields item → IfSome (value_in item) (λ e. (e.0 < length names) × IsFractionInLimits e.1)
  value_told before fields (it.Bounds lo hi) g = tt
  value_told before fields (it.Size z) g = tt
  value_told before fields (it.Value p v) g = (slice_get_within names p _ g.spells.0.spelled.group, record { lowest = g.spells.1.1.lowest g.within; limits = g.within })
  value_told before fields (it.Flow low high amount) g = tt
  value_told before fields it.End g = tt

  from_one : (z : ℤ) (n : ℕ) → z ≡ pos n → 1 ≤ n → unsigned_abs z ≤ most_amount → (pos 1 ≤ℤ z) × (z ≤ℤ pos most_amount)
  from_one z n e l m =
      let size : unsigned_abs z ≡ n = ap unsigned_abs e in
      subst (λ (t : ℤ). (pos 1 ≤ℤ t) × (t ≤ℤ pos most_amount)) (sym e) (omega (arith, ints, l), omega (arith, ints, m, size))

  flow_told : (before : List Item) (fields : List (List ℕ)) (item : Item) → IsGood (sheet_rules names sized) before fields item → IfSome (flow_in item) (λ f. ((f.0 < length names) × (f.1 < length names)) × ((pos 1 ≤ℤ f.2) × (f.2 ≤ℤ pos most_amount)))
  flow_told before fields (it.Bounds lo hi) g = tt
  flow_told before fields (it.Size z) g = tt
  flow_told before fields (it.Value p v) g = tt
  flow_told before fields (it.Flow low high amount) g =
      let s = g.spells.0.spelled in
      ((slice_get_within names low _ s.low_group, slice_get_within names high _ s.high_group), from_one amount s.size s.is_size s.positive g.within)
  flow_told before fields it.End g = tt

  first_so : {X : Type 0} (P : X → Type 0) (xs : List X) → All P xs → IfSome (slice_get xs 0) P
  first_so P [] h = tt
  first_so P (x ∷ xs) h = All-head P x xs h

  settings_so : (head : Header) (b : Option (Option ℤ × Option ℤ)) → head.places ≤ 6 → IsListed head.loss → IfSome b (λ b. IsBoundInLimits b.0 × IsBoundInLimits b.1 × InOrder b.0 b.1) → InLimits (settings_of head b)
  settings_so head None l k h = record { loss = k; places = l; lo = tt; hi = tt; order = tt }
  settings_so head (Some b) l k h = record { loss = k; places = l; lo = h.0; hi = h.1; order = h.2 }

  shorter : {X : Type 0} (f : Item → Option X) (items : List Item) → length (filter_map f items) ≤ length items
  shorter f [] = omega arith
  shorter f (x ∷ items) = omega (arith, one_longer (f x) (filter_map f items) (length items) (shorter f items))

  module _ (rows : List (List (List ℕ))) (items : List Item) (good : AreGood (sheet_rules names sized) [] rows items) where
    pub parts_so : ArePartsOfSheet (first_size items) (values_of items) (flows_of items)
    parts_so = record {
      sized = first_so (λ (z : size.Size). IsSizeInLimits z.rows z.weight) (filter_map size_in items) (good_told size_in (λ z. IsSizeInLimits z.rows z.weight) size_told [] rows items good);
      rising = rising_pairs place 0 (values_of items) (good_rising names sized [] rows items good);
      amounts = All-weaker (λ (f : ℕ × ℕ × ℤ). ((f.0 < length names) × (f.1 < length names)) × ((pos 1 ≤ℤ f.2) × (f.2 ≤ℤ pos most_amount))) (λ (f : ℕ × ℕ × ℤ). (pos 1 ≤ℤ f.2) × (f.2 ≤ℤ pos most_amount)) (λ f h. h.1) (flows_of items)
          (good_told flow_in (λ f. ((f.0 < length names) × (f.1 < length names)) × ((pos 1 ≤ℤ f.2) × (f.2 ≤ℤ pos most_amount))) flow_told [] rows items good);
    }

    values_so : All (λ e. (e.0 < length names) × IsFractionInLimits e.1) (values_of items)
    values_so = good_told value_in (λ e. (e.0 < length names) × IsFractionInLimits e.1) value_told [] rows items good

    pub limits_so : (head : Header) → head.places ≤ 6 → IsListed head.loss → InLimits (settings_of head (first_bounds items))
    limits_so head l k = settings_so head (first_bounds items) l k
        (first_so (λ (b : Option ℤ × Option ℤ). IsBoundInLimits b.0 × IsBoundInLimits b.1 × InOrder b.0 b.1) (filter_map bounds_in items) (good_told bounds_in (λ b. IsBoundInLimits b.0 × IsBoundInLimits b.1 × InOrder b.0 b.1) bounds_told [] rows items good))

    pub few_values : (n : ℕ) → length rows < n → length (values_of items) < n
    few_values n l = omega (arith, shorter value_in items, good-length names sized [] rows items good, l)

    pub few_flows : (n : ℕ) → length rows < n → length (flows_of items) < n
    few_flows n l = omega (arith, shorter flow_in items, good-length names sized [] rows items good, l)

    pub sheet_fits : (head : Header) → head.places ≤ 6 → IsListed head.loss → length rows < 2 ^ 32 → num.FitsCount (length names) (sheet_spelled head items)
    sheet_fits head l k short =
        fits_if (length names) (settings_of head (first_bounds items)) (first_size items) (values_of items) (flows_of items)
        (record {
          in_limits = limits_so head l k;
          parts = parts_so;
          fractions = All-weaker (λ (e : ℕ × Fraction). (e.0 < length names) × IsFractionInLimits e.1) (λ (e : ℕ × Fraction). IsFractionInLimits e.1) (λ e h. h.1) (values_of items) values_so;
          few_values = few_values (2 ^ 32) short;
          few_flows = few_flows (2 ^ 32) short;
        })
        (All-weaker (λ (e : ℕ × Fraction). (e.0 < length names) × IsFractionInLimits e.1) (λ (e : ℕ × Fraction). e.0 < length names) (λ e h. h.0) (values_of items) values_so)
        (All-weaker (λ (f : ℕ × ℕ × ℤ). ((f.0 < length names) × (f.1 < length names)) × ((pos 1 ≤ℤ f.2) × (f.2 ≤ℤ pos most_amount))) (λ (f : ℕ × ℕ × ℤ). (f.0 < length names) × (f.1 < length names)) (λ f h. h.0) (flows_of items)
        (good_told flow_in (λ f. ((f.0 < length names) × (f.1 < length names)) × ((pos 1 ≤ℤ f.2) × (f.2 ≤ℤ pos most_amount))) flow_told [] rows items good))

-- the first fault behind a header is that of the whole
stops_at : (names : List (List ℕ)) (rows others : List (List (List ℕ))) (first : List (List ℕ)) (head : Header) (number : ℕ) (IsFault : Rules Item → List Item → List (List ℕ) → Type 0)
    → rows ≡ first ∷ others → IsHeader first head → StopsBehind names head.sized others number IsFault → StopsAt (sheet_grammar names) rows number IsFault
stops_at names rows others first head number IsFault e h s = record {
  before = first ∷ s.before;
  fields = s.fields;
  after = s.after;
  parted = e ∙ ap (λ (t : List (List (List ℕ))). first ∷ t) s.parted;
  head = head;
  items = s.items;
  reads = record { first = first; others = s.before; parted = refl; header = h; good = s.good };
  counted = omega (arith, s.counted, good-length names head.sized [] s.before s.items s.good);
  fault = s.fault;
}

pub rest_fault : (names : List (List ℕ)) (rows others : List (List (List ℕ))) (first : List (List ℕ)) (head : Header) (f : SheetFault) → rows ≡ first ∷ others → IsHeader first head
    → RestRead names head.sized others (Err f) → SheetRead names rows (Err f)
rest_fault names rows others first head fault.BadHeader e h r = absurd r
rest_fault names rows others first head (fault.BadRecord n) e h r = stops_at names rows others first head n _ e h r
rest_fault names rows others first head (fault.NumberTooLarge n) e h r = stops_at names rows others first head n _ e h r
rest_fault names rows others first head fault.NoEnd e h r = absurd r
rest_fault names rows others first head (fault.AfterEnd n) e h r = stops_at names rows others first head n _ e h r
rest_fault names rows others first head fault.Memory e h r = tt

-- the sheet of a draft that follows the records
pub spelled_by : (head : Header) (items : List Item) (draft : Draft) → seen draft ≡ told_of items → sheet_of (settings_of head draft.bounds) draft.size draft.values.items draft.flows.items ≡ sheet_spelled head items
spelled_by head items draft e = ap (λ (t : Told). sheet_of (settings_of head t.bounds) t.size t.values t.flows) e

pub header_read : (rows left : List (List (List ℕ))) (first : List (List ℕ)) → rows ≡ first ∷ left → ((head : Header) → IsHeader first head → ⊥) → HasBadHeader IsHeader rows
header_read rows left first e no_head f others head other h =
    let same : f ≡ first = let both : f ∷ others ≡ first ∷ left = sym other ∙ e in cc in
    no_head head (subst (λ (t : List (List ℕ)). IsHeader t head) same h)

pub header_fault : (names : List (List ℕ)) (rows left : List (List (List ℕ))) (f : SheetFault) → HeaderRead rows left (Err f) → SheetRead names rows (Err f)
header_fault names rows left fault.BadHeader h = h
header_fault names rows left (fault.BadRecord n) h = absurd h
header_fault names rows left (fault.NumberTooLarge n) h = absurd h
header_fault names rows left fault.NoEnd h = absurd h
header_fault names rows left (fault.AfterEnd n) h = absurd h
header_fault names rows left fault.Memory h = tt
