-- A sheet's text is read as that sheet.
use Rattle.std.proofs.Common.{◌≡◌, ◌≢◌, ℕ, ◌+◌, ◌≤◌, ◌<◌, ℤ, pos, Bool, true, false, List, [], ◌∷◌, ◌++◌, map, length, Option, Some, None, Ok, refl, sym, ap, subst, ◌∙◌, append_assoc, append-nil, length-append, decimal, arith}
use Rattle.std.specs.Prelude.{All, IfSome, option_map, slice_get, codes, ◌||◌}
use Rattle.std.specs.Fmt.{signed_decimal}
use Rattle.std.specs.List.{filter_map, cons_option}
use Rattle.std.proofs.lemmas.List.Elements.{filter_map-append, All-nil, All-cons, All-append, All-map, All-head, All-tail}
use Rattle.std.proofs.lemmas.List.Folds.{list_any-append}
use Rattle.std.proofs.lemmas.Option.{slice_get-get_or}
use Rattle.ofit_num.specs.Fraction.{Fraction}
use Rattle.ofit_num.specs.Flow.{Flow}
use Rattle.ofit_num.specs.Sheet as num
use Rattle.ofit_num.proofs.Numerals.{IsWhole-decimal, IsSigned-decimal}
use Rattle.ofit_records.specs.Records.{records_of, without_marks}
use Rattle.ofit_records.specs.Written.{records_text}
use Rattle.ofit_records.proofs.WrittenText.{read_back_all, no_mark}
use Rattle.ofit_study.specs.declared.settings.Settings.{Settings}
use Rattle.ofit_study.specs.FieldText.{bound_text}
use Rattle.ofit_study.specs.Loss.{loss_text}
use Rattle.ofit_study.specs.Settings.{InLimits, IsBoundInLimits}
use Rattle.ofit_sheet.specs.declared.size.Size as size
use Rattle.ofit_sheet.specs.declared.header.Header.{Header}
use Rattle.ofit_sheet.specs.declared.item.Item.{Item}
use Rattle.ofit_sheet.specs.declared.item.Item.TheVariants as it
use Rattle.ofit_sheet.specs.Kept.{IsKept, IsSizeInLimits, IsAmountInLimits, IsFractionInLimits}
use Rattle.ofit_sheet.specs.Parts.{size_of, entry_of, flow_of}
use Rattle.ofit_sheet.specs.SheetText.{version_text, header_fields, bounds_fields, size_fields, size_records, name_at, value_fields, flow_fields, end_fields, sheet_records, sheet_text}
use Rattle.ofit_sheet.specs.Spelling.{version_of, IsHeader, IsBoundText}
use Rattle.ofit_sheet.specs.Frame.{IsGood, AreGood}
use Rattle.ofit_sheet.specs.Rules.{value_in, flow_in, is_end, values_of, flows_of, has_end, leading, sheet_rules}
use Rattle.ofit_sheet.specs.SheetRead.{size_in, first_size, sheet_spelled, SheetRead}
use Rattle.ofit_sheet.proofs.Rising.{IsRising, rising_from_none}
use Rattle.ofit_sheet.proofs.Telling.{none_more, one_more, same_end}

abbrev sized_of : Option num.Size → Bool
sized_of None = false
sized_of (Some z) = true

abbrev value_item : num.Entry → Item
value_item e = it.Value e.place e.value

abbrev flow_item : Flow → Item
flow_item f = it.Flow f.low f.high (pos f.amount)

abbrev size_items : Option num.Size → List Item
size_items None = []
size_items (Some z) = it.Size (record { rows = z.rows; weight = z.weight }) ∷ []

abbrev head_of : num.Sheet Settings → Header
head_of x = record { sized = sized_of x.size; loss = x.settings.loss; places = x.settings.places }

abbrev front_of : num.Sheet Settings → List Item
front_of x = it.Bounds x.settings.lo x.settings.hi ∷ size_items x.size

abbrev items_of : num.Sheet Settings → List Item
items_of x = ((front_of x ++ map value_item x.values) ++ map flow_item x.flows) ++ it.End ∷ []

-- good records behind good records
good_append : (names : List (List ℕ)) (sized : Bool) (before : List Item) (rows more : List (List (List ℕ))) (items next : List Item) → AreGood (sheet_rules names sized) before rows items → AreGood (sheet_rules names sized) (before ++ items) more next
    → AreGood (sheet_rules names sized) before (rows ++ more) (items ++ next)
good_append names sized before [] more [] next g h = subst (λ (b : List Item). AreGood (sheet_rules names sized) b more next) (append-nil before) h
good_append names sized before [] more (x ∷ items) next g h = absurd g
good_append names sized before (row ∷ rows) more [] next g h = absurd g
good_append names sized before (row ∷ rows) more (x ∷ items) next g h =
    (g.0, good_append names sized (before ++ x ∷ []) rows more items next g.1 (subst (λ (b : List Item). AreGood (sheet_rules names sized) b more next) (sym (append_assoc before (x ∷ []) items)) h))

-- no end stands yet, and what leads is read
record Open (sized : Bool) (before : List Item) : Type 0 where
  open_yet : has_end before ≡ false
  led : leading sized ≤ length before

open_more : (sized : Bool) (before : List Item) (item : Item) → is_end item ≡ false → Open sized before → Open sized (before ++ item ∷ [])
open_more sized before item e o = record { open_yet = same_end before item e ∙ o.open_yet; led = omega (arith, o.led, length-append before (item ∷ [])) }

no_ends : {X : Type 0} (f : X → Item) → ((x : X) → is_end (f x) ≡ false) → (xs : List X) → has_end (map f xs) ≡ false
no_ends f h [] = refl
no_ends f h (x ∷ xs) = ap (λ (b : Bool). b || has_end (map f xs)) (h x) ∙ no_ends f h xs

open_all : {X : Type 0} (sized : Bool) (before : List Item) (f : X → Item) (xs : List X) → ((x : X) → is_end (f x) ≡ false) → Open sized before → Open sized (before ++ map f xs)
open_all sized before f xs h o = record {
  open_yet = list_any-append is_end before (map f xs) ∙ ap (λ (b : Bool). b || has_end (map f xs)) o.open_yet ∙ no_ends f h xs;
  led = omega (arith, o.led, length-append before (map f xs));
}

bound_spelled : (b : Option ℤ) → IsBoundInLimits b → IsBoundText (bound_text b) b
bound_spelled None l = refl
bound_spelled (Some z) l = IsSigned-decimal z (omega (arith, l))

name_there : (names : List (List ℕ)) (p : ℕ) → p < length names → slice_get names p ≡ Some (name_at names p)
name_there names p l = slice_get-get_or names p [] l

bounds_good : (names : List (List ℕ)) (sized : Bool) (settings : Settings) → InLimits settings → IsGood (sheet_rules names sized) [] (bounds_fields settings) (it.Bounds settings.lo settings.hi)
bounds_good names sized settings l = record {
  open_yet = refl;
  spells = (
    record {
      first = bound_text settings.lo;
      second = bound_text settings.hi;
      third = codes "-";
      four = refl;
      spelled = record { low = bound_spelled settings.lo l.lo; high = bound_spelled settings.hi l.hi; no_more = refl };
    },
    (refl, l.order),
  );
  within = (l.lo, l.hi);
}

front_good : (names : List (List ℕ)) (settings : Settings) (z : Option num.Size) → InLimits settings → IfSome z (λ t. IsSizeInLimits t.rows t.weight)
    → AreGood (sheet_rules names (sized_of z)) [] (bounds_fields settings ∷ size_records z) (it.Bounds settings.lo settings.hi ∷ size_items z)
front_good names settings None l h = (bounds_good names false settings l, tt)
front_good names settings (Some z) l h = (
  bounds_good names true settings l,
  (
    record {
      open_yet = refl;
      spells = (
        record {
          first = decimal z.rows;
          second = decimal z.weight;
          third = codes "-";
          four = refl;
          spelled = record { count = IsWhole-decimal z.rows (omega (arith, h.few)); total = IsWhole-decimal z.weight (omega (arith, h.light)); no_more = refl };
        },
        (refl, refl),
      );
      within = record { few = h.few; light = h.light };
    },
    tt,
  ),
)

front_open : (settings : Settings) (z : Option num.Size) → Open (sized_of z) (it.Bounds settings.lo settings.hi ∷ size_items z)
front_open settings None = record { open_yet = refl; led = omega arith }
front_open settings (Some z) = record { open_yet = refl; led = omega arith }

module _ (names : List (List ℕ)) (sized : Bool) where
  value_good : (before : List Item) (e : num.Entry) → Open sized before → flows_of before ≡ [] → All (λ v. v.0 < e.place) (values_of before) → e.place < length names → IsFractionInLimits e.value → IsGood (sheet_rules names sized) before (value_fields names e) (value_item e)
  value_good before e o unflowed rises inside f = record {
    open_yet = o.open_yet;
    spells = (
      record {
        first = name_at names e.place;
        second = signed_decimal e.value.num;
        third = decimal e.value.den;
        four = refl;
        spelled = record {
          group = name_there names e.place inside;
          fraction = record { numerator = IsSigned-decimal e.value.num (omega (arith, f.limits.num)); denominator = IsWhole-decimal e.value.den (omega (arith, f.limits.den)); positive = f.lowest.den };
        };
      },
      (o.led, record { no_flow = unflowed; rises = rises; lowest = λ l. f.lowest }),
    );
    within = f.limits;
  }

  values_good : (before : List Item) (es : List num.Entry) (least : ℕ) → Open sized before → flows_of before ≡ [] → ((p : ℕ) → least ≤ p → All (λ v. v.0 < p) (values_of before)) → IsRising (λ (e : num.Entry). e.place) least es
      → All (λ e. e.place < length names) es → All (λ e. IsFractionInLimits e.value) es → AreGood (sheet_rules names sized) before (map (value_fields names) es) (map value_item es)
  values_good before [] least o unflowed below r inside f = tt
  values_good before (e ∷ es) least o unflowed below r inside f =
      let item : Item = value_item e in
      let more : values_of (before ++ item ∷ []) ≡ values_of before ++ (e.place, e.value) ∷ [] = one_more value_in before item (e.place, e.value) refl in
      let next : (p : ℕ) → e.place + 1 ≤ p → All (λ v. v.0 < p) (values_of (before ++ item ∷ [])) =
      λ p l. subst (All (λ (v : ℕ × Fraction). v.0 < p)) (sym more)
      (All-append (λ (v : ℕ × Fraction). v.0 < p) (values_of before) ((e.place, e.value) ∷ []) (below p (omega (arith, l, r.0))) (All-cons (λ (v : ℕ × Fraction). v.0 < p) (e.place, e.value) [] (omega (arith, l)) (All-nil (λ (v : ℕ × Fraction). v.0 < p)))) in (
        value_good before e o unflowed (below e.place r.0) (All-head (λ (t : num.Entry). t.place < length names) e es inside) (All-head (λ (t : num.Entry). IsFractionInLimits t.value) e es f),
        values_good (before ++ item ∷ []) es (e.place + 1) (open_more sized before item refl o) (none_more flow_in before item refl ∙ unflowed) next r.1
            (All-tail (λ (t : num.Entry). t.place < length names) e es inside) (All-tail (λ (t : num.Entry). IsFractionInLimits t.value) e es f),
      )

  flow_good : (before : List Item) (f : Flow) → Open sized before → (f.low < length names) × (f.high < length names) → IsAmountInLimits f.amount → IsGood (sheet_rules names sized) before (flow_fields names f) (flow_item f)
  flow_good before f o ends a = record {
    open_yet = o.open_yet;
    spells = (
      record {
        first = name_at names f.low;
        second = name_at names f.high;
        third = decimal f.amount;
        four = refl;
        spelled = record {
          low_group = name_there names f.low ends.0;
          high_group = name_there names f.high ends.1;
          size = f.amount;
          whole = IsWhole-decimal f.amount (omega (arith, a.most));
          positive = a.least;
          is_size = refl;
        };
      },
      o.led,
    );
    within = a.most;
  }

  flows_good : (before : List Item) (fs : List Flow) → Open sized before → All (λ f. (f.low < length names) × (f.high < length names)) fs → All (λ f. IsAmountInLimits f.amount) fs → AreGood (sheet_rules names sized) before (map (flow_fields names) fs) (map flow_item fs)
  flows_good before [] o ends a = tt
  flows_good before (f ∷ fs) o ends a = (
    flow_good before f o (All-head (λ (t : Flow). (t.low < length names) × (t.high < length names)) f fs ends) (All-head (λ (t : Flow). IsAmountInLimits t.amount) f fs a),
    flows_good (before ++ flow_item f ∷ []) fs (open_more sized before (flow_item f) refl o)
        (All-tail (λ (t : Flow). (t.low < length names) × (t.high < length names)) f fs ends) (All-tail (λ (t : Flow). IsAmountInLimits t.amount) f fs a),
  )

  end_good : (before : List Item) → Open sized before → AreGood (sheet_rules names sized) before (end_fields ∷ []) (it.End ∷ [])
  end_good before o = (
    record {
      open_yet = o.open_yet;
      spells = (record { first = codes "-"; second = codes "-"; third = codes "-"; four = refl; spelled = record { nothing = refl; no_more = refl; no_last = refl } }, o.led);
      within = tt;
    },
    tt,
  )

front_values : (settings : Settings) (z : Option num.Size) → values_of (it.Bounds settings.lo settings.hi ∷ size_items z) ≡ []
front_values settings None = refl
front_values settings (Some z) = refl

front_flows : (settings : Settings) (z : Option num.Size) → flows_of (it.Bounds settings.lo settings.hi ∷ size_items z) ≡ []
front_flows settings None = refl
front_flows settings (Some z) = refl

all_good : (names : List (List ℕ)) (x : num.Sheet Settings) → num.FitsCount (length names) x → IsKept x
    → AreGood (sheet_rules names (sized_of x.size)) [] (((((bounds_fields x.settings ∷ size_records x.size) ++ map (value_fields names) x.values) ++ map (flow_fields names) x.flows) ++ end_fields ∷ [])) (items_of x)
all_good names x fits kept =
    let sized = sized_of x.size in
    let open0 = front_open x.settings x.size in
    let front = front_of x in
    let open1 = open_all sized front value_item x.values (λ e. refl) open0 in
    let open2 = open_all sized (front ++ map value_item x.values) flow_item x.flows (λ f. refl) open1 in
    let none : (p : ℕ) → 0 ≤ p → All (λ v. v.0 < p) (values_of front) = λ p l. subst (All (λ (v : ℕ × Fraction). v.0 < p)) (sym (front_values x.settings x.size)) (All-nil (λ (v : ℕ × Fraction). v.0 < p)) in
    let values = values_good names sized front x.values 0 open0 (front_flows x.settings x.size) none (rising_from_none (λ (e : num.Entry). e.place) x.values kept.rising) fits.places kept.fractions in
    let flows = flows_good names sized (front ++ map value_item x.values) x.flows open1 fits.ends kept.amounts in
    let rows0 = bounds_fields x.settings ∷ size_records x.size in
    let rows1 = rows0 ++ map (value_fields names) x.values in
    let rows2 = rows1 ++ map (flow_fields names) x.flows in
    let items1 = front ++ map value_item x.values in
    let items2 = items1 ++ map flow_item x.flows in
    let good1 = good_append names sized [] rows0 (map (value_fields names) x.values) front (map value_item x.values) (front_good names x.settings x.size kept.settings kept.size) values in
    let good2 = good_append names sized [] rows1 (map (flow_fields names) x.flows) items1 (map flow_item x.flows) good1 flows in
    good_append names sized [] rows2 (end_fields ∷ []) items2 (it.End ∷ []) good2 (end_good names sized items2 open2)

-- what the items tell is what the sheet has
told_some : {X Y : Type 0} (f : Item → Option Y) (g : X → Item) (h : X → Y) → ((x : X) → f (g x) ≡ Some (h x)) → (xs : List X) → filter_map f (map g xs) ≡ map h xs
told_some f g h e [] = refl
told_some {X} {Y} f g h e (x ∷ xs) = ap (λ (o : Option Y). cons_option o (filter_map f (map g xs))) (e x) ∙ ap (λ (t : List Y). h x ∷ t) (told_some f g h e xs)

told_none : {X Y : Type 0} (f : Item → Option Y) (g : X → Item) → ((x : X) → f (g x) ≡ None) → (xs : List X) → filter_map f (map g xs) ≡ []
told_none f g e [] = refl
told_none {X} {Y} f g e (x ∷ xs) = ap (λ (o : Option Y). cons_option o (filter_map f (map g xs))) (e x) ∙ told_none f g e xs

told_parts : {Y : Type 0} (f : Item → Option Y) (front values flows : List Item) (a b c : List Y) → f it.End ≡ None → filter_map f front ≡ a → filter_map f values ≡ b → filter_map f flows ≡ c
    → filter_map f (((front ++ values) ++ flows) ++ it.End ∷ []) ≡ (a ++ b) ++ c
told_parts {Y} f front values flows a b c e p q r =
    none_more f ((front ++ values) ++ flows) it.End e
    ∙ filter_map-append f (front ++ values) flows
    ∙ ap (λ (t : List Y). t ++ filter_map f flows) (filter_map-append f front values)
    ∙ ap (λ (t : List Y). (t ++ filter_map f values) ++ filter_map f flows) p
    ∙ ap (λ (t : List Y). (a ++ t) ++ filter_map f flows) q
    ∙ ap (λ (t : List Y). (a ++ b) ++ t) r

entries_back : (es : List num.Entry) → map entry_of (map (λ e. (e.place, e.value)) es) ≡ es
entries_back [] = refl
entries_back (e ∷ es) = ap (λ (t : List num.Entry). e ∷ t) (entries_back es)

flows_back : (fs : List Flow) → map flow_of (map (λ f. (f.low, f.high, pos f.amount)) fs) ≡ fs
flows_back [] = refl
flows_back (f ∷ fs) = ap (λ (t : List Flow). f ∷ t) (flows_back fs)

values_told : (x : num.Sheet Settings) → map entry_of (values_of (items_of x)) ≡ x.values
values_told x =
    ap (map entry_of)
    (told_parts value_in (front_of x) (map value_item x.values) (map flow_item x.flows) [] (map (λ e. (e.place, e.value)) x.values) [] refl (front_values x.settings x.size)
    (told_some value_in value_item (λ e. (e.place, e.value)) (λ e. refl) x.values) (told_none value_in flow_item (λ f. refl) x.flows) ∙ append-nil (map (λ e. (e.place, e.value)) x.values))
    ∙ entries_back x.values

flows_told : (x : num.Sheet Settings) → map flow_of (flows_of (items_of x)) ≡ x.flows
flows_told x =
    ap (map flow_of)
    (told_parts flow_in (front_of x) (map value_item x.values) (map flow_item x.flows) [] [] (map (λ f. (f.low, f.high, pos f.amount)) x.flows) refl (front_flows x.settings x.size)
    (told_none flow_in value_item (λ e. refl) x.values) (told_some flow_in flow_item (λ f. (f.low, f.high, pos f.amount)) (λ f. refl) x.flows))
    ∙ flows_back x.flows

sizes_told : (settings : Settings) (z : Option num.Size) (values flows : List Item) → filter_map size_in values ≡ [] → filter_map size_in flows ≡ []
    → option_map size_of (first_size ((((it.Bounds settings.lo settings.hi ∷ size_items z) ++ values) ++ flows) ++ it.End ∷ [])) ≡ z
sizes_told settings None values flows v f =
    ap (λ (l : List size.Size). option_map size_of (slice_get l 0))
    (told_parts size_in (it.Bounds settings.lo settings.hi ∷ []) values flows [] [] [] refl refl v f)
sizes_told settings (Some z) values flows v f = refl

sheet_same : (x : num.Sheet Settings) → x ≡ sheet_spelled (head_of x) (items_of x)
sheet_same x =
    let a = sym (sizes_told x.settings x.size (map value_item x.values) (map flow_item x.flows) (told_none size_in value_item (λ e. refl) x.values) (told_none size_in flow_item (λ f. refl) x.flows)) in
    let b = sym (values_told x) in
    let c = sym (flows_told x) in
    λ i. record { settings = x.settings; size = a i; values = b i; flows = c i }

version_same : (z : Option num.Size) → version_text z ≡ version_of (sized_of z)
version_same None = refl
version_same (Some z) = refl

header_good : (x : num.Sheet Settings) → IsKept x → IsHeader (header_fields x) (head_of x)
header_good x kept = record {
  places_text = decimal x.settings.places;
  spells = ap (λ (t : List ℕ). codes "ofit-sheet" ∷ t ∷ loss_text x.settings.loss ∷ decimal x.settings.places ∷ []) (version_same x.size);
  places = IsWhole-decimal x.settings.places (omega (arith, kept.settings.places));
  most = kept.settings.places;
  listed = kept.settings.loss;
}

ended : (before : List Item) → has_end (before ++ it.End ∷ []) ≡ true
ended before = list_any-append is_end before (it.End ∷ []) ∙ or_true (has_end before) where
  or_true : (b : Bool) → (b || true) ≡ true
  or_true true = refl
  or_true false = refl

has_sheet : (names : List (List ℕ)) (x : num.Sheet Settings) → num.FitsCount (length names) x → IsKept x → SheetRead names (sheet_records names x) (Ok x)
has_sheet names x fits kept = record {
  head = head_of x;
  items = items_of x;
  reads = record { first = header_fields x; others = bounds_fields x.settings ∷ (size_records x.size ++ map (value_fields names) x.values ++ map (flow_fields names) x.flows ++ end_fields ∷ []); parted = refl; header = header_good x kept; good = all_good names x fits kept };
  ended = ended ((front_of x ++ map value_item x.values) ++ map flow_item x.flows);
  made = sheet_same x;
}

-- each record has a field
abbrev HasField : List (List ℕ) → Type 0
HasField fields = fields ≢ []

cons_field : (a : List ℕ) (rest : List (List ℕ)) → HasField (a ∷ rest)
cons_field a rest e = cc

size_fields_there : (z : Option num.Size) → All HasField (size_records z)
size_fields_there None = All-nil HasField
size_fields_there (Some z) = All-cons HasField (size_fields z) [] (cons_field _ _) (All-nil HasField)

fields_there : (names : List (List ℕ)) (x : num.Sheet Settings) → All HasField (sheet_records names x)
fields_there names x =
    let values = map (value_fields names) x.values in
    let flows = map (flow_fields names) x.flows in
    let rest = size_records x.size ++ values ++ flows ++ end_fields ∷ [] in
    All-cons HasField (header_fields x) (bounds_fields x.settings ∷ rest) (cons_field _ _)
    (All-cons HasField (bounds_fields x.settings) rest (cons_field _ _)
    (All-append HasField (size_records x.size ++ values ++ flows) (end_fields ∷ [])
    (All-append HasField (size_records x.size ++ values) flows
    (All-append HasField (size_records x.size) values (size_fields_there x.size) (All-map HasField (value_fields names) x.values (λ k d l. cons_field _ _)))
    (All-map HasField (flow_fields names) x.flows (λ k d l. cons_field _ _)))
    (All-cons HasField end_fields [] (cons_field _ _) (All-nil HasField))))

unmarked : (names : List (List ℕ)) (x : num.Sheet Settings) → without_marks (sheet_text names x) ≡ sheet_text names x
unfolding records_text
unmarked names x = no_mark 111 _ (λ e. absurd (omega (arith, e)))

pub sheet_read_back : (names : List (List ℕ)) (x : num.Sheet Settings) → num.FitsCount (length names) x → IsKept x → SheetRead names (records_of (sheet_text names x)) (Ok x)
sheet_read_back names x fits kept =
    subst (λ (rows : List (List (List ℕ))). SheetRead names rows (Ok x)) (sym (read_back_all (sheet_records names x) (fields_there names x) (unmarked names x))) (has_sheet names x fits kept)
