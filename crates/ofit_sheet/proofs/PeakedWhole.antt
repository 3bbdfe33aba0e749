-- The records of a peaked sheet that were taken part by part make a reading of all.
use Rattle.std.proofs.Common.{◌≡◌, ℕ, ◌+◌, Bool, true, false, List, [], ◌∷◌, ◌++◌, map, length, Some, Result, Ok, Err, refl, sym, ap, subst, ◌∙◌, append_assoc, append-nil, length-append, arith}
use Rattle.std.specs.Prelude.{slice_get, ◌||◌}
use Rattle.std.specs.Result.{IsErr, IsErrAnd}
use Rattle.std.specs.List.{range_with_len, flat_map, list_any}
use Rattle.std.proofs.lemmas.List.Folds.{list_any-append}
use Rattle.ofit_sheet.specs.declared.fault.SheetFault.{SheetFault}
use Rattle.ofit_sheet.specs.declared.fault.SheetFault.TheVariants as fault
use Rattle.ofit_sheet.specs.declared.peaked.slope.Slope.{Slope}
use Rattle.ofit_sheet.specs.declared.peaked.slope.Slope.TheVariants.{Rise, Fall}
use Rattle.ofit_sheet.specs.Peaked.{Peaked, IsShaped}
use Rattle.ofit_sheet.specs.PeakedText.{side_start}
use Rattle.ofit_sheet.specs.Slots.{Slot, peak_slot, value_slot, side_slot, step_slot, last_slot, end_slot, steps_before_last, side_slots, sides_slots, value_slots, slots}
use Rattle.ofit_sheet.specs.PeakedRead.{Item, IsPeakedHeader, SpellsSlot, SpellsNext, IsWithinLimits, is_end, peaked_rules, peaked_grammar, items_of, PeakedRead}
use Rattle.ofit_sheet.specs.PeakedSteps.{AreSpelled, Takes, StopsIn, SaysNothing, SaysTooMuch, PartFault, PlacesRead}
use Rattle.ofit_sheet.specs.Frame.{Rules, Grammar, IsGood, AreGood, IsAfterEnd, IsBad, IsTooLarge, StopsAt}

abbrev Rows : Type 0
Rows = List (List (List ℕ))

-- the slot isn't the end's
abbrev is_last : Slot → Bool
is_last peak_slot = false
is_last (value_slot place) = false
is_last (side_slot slope k) = false
is_last (step_slot place) = false
is_last (last_slot place) = false
is_last end_slot = true

open_item : (names : List (List ℕ)) (slot : Slot) (fields : List (List ℕ)) (item : Item) → is_last slot ≡ false → SpellsSlot names slot fields item → is_end item ≡ false
open_item names peak_slot fields item o s = ap is_end s.2
open_item names (value_slot place) fields item o s = ap is_end s.1
open_item names (side_slot slope k) fields item o s = ap is_end s.0
open_item names (step_slot place) fields item o s = ap is_end s.2
open_item names (last_slot place) fields item o s = ap is_end s.1
open_item names end_slot fields item o s = absurd (cc)

-- none of them is the end's
abbrev AreOpen : List Slot → Type 0
AreOpen [] = Unit {0}
AreOpen (s ∷ ss) = (is_last s ≡ false) × AreOpen ss

open_then : (ss ts : List Slot) → AreOpen ss → AreOpen ts → AreOpen (ss ++ ts)
open_then [] ts h k = k
open_then (s ∷ ss) ts h k = (h.0, open_then ss ts h.1 k)

open_map : (f : ℕ → Slot) (ks : List ℕ) → ((k : ℕ) → is_last (f k) ≡ false) → AreOpen (map f ks)
open_map f [] h = tt
open_map f (k ∷ ks) h = (h k, open_map f ks h)

open_flat : (f : ℕ → List Slot) (ks : List ℕ) → ((k : ℕ) → AreOpen (f k)) → AreOpen (flat_map f ks)
open_flat f [] h = tt
open_flat f (k ∷ ks) h = open_then (f k) (flat_map f ks) (h k) (open_flat f ks h)

open_side : (slope : Slope) (n k : ℕ) → AreOpen (side_slots slope n k)
open_side slope n k = (refl, open_then (map step_slot (range_with_len (side_start slope k) (steps_before_last slope n k))) (last_slot (side_start slope k + steps_before_last slope n k) ∷ []) (open_map step_slot (range_with_len (side_start slope k) (steps_before_last slope n k)) (λ j. refl)) (refl, tt))

-- the slots before the last one
abbrev open_slots : ℕ → List Slot
open_slots n = peak_slot ∷ (value_slots n ++ (sides_slots Rise n ++ sides_slots Fall n))

open_so : (n : ℕ) → AreOpen (open_slots n)
open_so n = (
  refl,
  open_then (value_slots n) (sides_slots Rise n ++ sides_slots Fall n) (open_map value_slot (range_with_len 0 n) (λ j. refl))
      (open_then (sides_slots Rise n) (sides_slots Fall n) (open_flat (side_slots Rise n) (range_with_len 0 n) (open_side Rise n)) (open_flat (side_slots Fall n) (range_with_len 0 n) (open_side Fall n))),
)

three : {A : Type 0} (a b c d : List A) → (a ++ (b ++ c)) ++ d ≡ a ++ (b ++ (c ++ d))
three a b c d = simp append_assoc refl

slots_end : (n : ℕ) → slots n ≡ open_slots n ++ end_slot ∷ []
slots_end n = ap (λ (t : List Slot). peak_slot ∷ t) (sym (three (value_slots n) (sides_slots Rise n) (sides_slots Fall n) (end_slot ∷ [])))

-- what stands before a slot isn't the end's
open_before : (firsts before behind : List Slot) (slot : Slot) → AreOpen firsts → firsts ++ end_slot ∷ [] ≡ before ++ slot ∷ behind → AreOpen before
open_before firsts [] behind slot h e = tt
open_before [] (b ∷ []) behind slot h e = absurd (cc)
open_before [] (b ∷ c ∷ before) behind slot h e = absurd (cc)
open_before (s ∷ firsts) (b ∷ before) behind slot h e =
    let same : s ≡ b = cc in
    let rest : firsts ++ end_slot ∷ [] ≡ before ++ slot ∷ behind = cc in
    (subst (λ (t : Slot). is_last t ≡ false) same h.0, open_before firsts before behind slot h.1 rest)

or_false : (b : Bool) → (b || false) ≡ b
or_false true = refl
or_false false = refl

or_true : (b : Bool) → (b || true) ≡ true
or_true true = refl
or_true false = refl

more_open : (items : List Item) (item : Item) → list_any is_end items ≡ false → is_end item ≡ false → list_any is_end (items ++ item ∷ []) ≡ false
more_open items item o e = list_any-append is_end items (item ∷ []) ∙ ap (λ (b : Bool). b || (is_end item || false)) o ∙ ap (λ (b : Bool). b || false) e

slot_behind : (front : List Slot) (slot : Slot) (behind : List Slot) → slice_get (front ++ slot ∷ behind) (length front) ≡ Some slot
slot_behind [] slot behind = refl
slot_behind (s ∷ front) slot behind = slot_behind front slot behind

module _ (names : List (List ℕ)) (places : ℕ) where
  abbrev g : Grammar ℕ Item
  g = peaked_grammar names

  abbrev rules : Rules Item
  rules = peaked_rules names

  next_slot : (front behind : List Slot) (slot : Slot) (before : List Item) → slots (length names) ≡ front ++ slot ∷ behind → length before ≡ length front → slice_get (slots (length names)) (length before) ≡ Some slot
  next_slot front behind slot before e l = ap (λ (k : ℕ). slice_get (slots (length names)) k) l ∙ ap (λ (t : List Slot). slice_get t (length front)) e ∙ slot_behind front slot behind

  spelled_length : (ss : List Slot) (rows : Rows) (items : List Item) → AreSpelled names ss rows items → (length rows ≡ length ss) × (length items ≡ length ss)
  spelled_length [] [] [] h = (refl, refl)
  spelled_length [] [] (x ∷ items) h = absurd h
  spelled_length [] (row ∷ rows) items h = absurd h
  spelled_length (s ∷ ss) [] items h = absurd h
  spelled_length (s ∷ ss) (row ∷ rows) [] h = absurd h
  spelled_length (s ∷ ss) (row ∷ rows) (x ∷ items) h = let r = spelled_length ss rows items h.1 in (omega (arith, r.0), omega (arith, r.1))

  spelled_open : (ss : List Slot) (rows : Rows) (items : List Item) → AreOpen ss → AreSpelled names ss rows items → list_any is_end items ≡ false
  spelled_open [] [] [] o h = refl
  spelled_open [] [] (x ∷ items) o h = absurd h
  spelled_open [] (row ∷ rows) items o h = absurd h
  spelled_open (s ∷ ss) [] items o h = absurd h
  spelled_open (s ∷ ss) (row ∷ rows) [] o h = absurd h
  spelled_open (s ∷ ss) (row ∷ rows) (x ∷ items) o h = ap (λ (b : Bool). b || list_any is_end items) (open_item names s row x o.0 h.0.0) ∙ spelled_open ss rows items o.1 h.1

  -- records that are what open slots ask for are good
  spelled_good : (front ss behind : List Slot) (rows : Rows) (before items : List Item) → slots (length names) ≡ front ++ (ss ++ behind) → length before ≡ length front → list_any is_end before ≡ false → AreOpen ss → AreSpelled names ss rows items
      → AreGood rules before rows items
  spelled_good front [] behind [] before [] e l o a h = tt
  spelled_good front [] behind [] before (x ∷ items) e l o a h = absurd h
  spelled_good front [] behind (row ∷ rows) before items e l o a h = absurd h
  spelled_good front (s ∷ ss) behind [] before items e l o a h = absurd h
  spelled_good front (s ∷ ss) behind (row ∷ rows) before [] e l o a h = absurd h
  spelled_good front (s ∷ ss) behind (row ∷ rows) before (x ∷ items) e l o a h = (
    record { open_yet = o; spells = record { slot = s; next = next_slot front (ss ++ behind) s before e l; spells = h.0.0 }; within = h.0.1 },
    spelled_good (front ++ s ∷ []) ss behind rows (before ++ x ∷ []) items (e ∙ sym (append_assoc front (s ∷ []) (ss ++ behind))) (omega (arith, l, length-append before (x ∷ []), length-append front (s ∷ [])))
        (more_open before x o (open_item names s row x a.0 h.0.0)) a.1 h.1,
  )

  good_then : (before : List Item) (rows more : Rows) (items next : List Item) → AreGood rules before rows items → AreGood rules (before ++ items) more next → AreGood rules before (rows ++ more) (items ++ next)
  good_then before [] more [] next h k = subst (λ (b : List Item). AreGood rules b more next) (append-nil before) k
  good_then before [] more (x ∷ items) next h k = absurd h
  good_then before (row ∷ rows) more [] next h k = absurd h
  good_then before (row ∷ rows) more (x ∷ items) next h k =
      (h.0, good_then (before ++ x ∷ []) rows more items next h.1 (subst (λ (b : List Item). AreGood rules b more next) (sym (append_assoc before (x ∷ []) items)) k))

  -- where the last slot is taken
  record Ended (firsts : List Slot) (rows : Rows) (items : List Item) : Type 0 where
    done : Rows
    fields : List (List ℕ)
    own : List Item
    item : Item
    parted : rows ≡ done ++ fields ∷ []
    told : items ≡ own ++ item ∷ []
    spelled : AreSpelled names firsts done own
    last : SpellsSlot names end_slot fields item

  ended : (firsts : List Slot) (rows : Rows) (items : List Item) → AreSpelled names (firsts ++ end_slot ∷ []) rows items → Ended firsts rows items
  ended [] [] items h = absurd h
  ended [] (row ∷ []) [] h = absurd h
  ended [] (row ∷ []) (x ∷ []) h = record { done = []; fields = row; own = []; item = x; parted = refl; told = refl; spelled = tt; last = h.0.0 }
  ended [] (row ∷ []) (x ∷ y ∷ items) h = absurd h.1
  ended [] (row ∷ other ∷ rows) [] h = absurd h
  ended [] (row ∷ other ∷ rows) (x ∷ items) h = absurd h.1
  ended (s ∷ firsts) [] items h = absurd h
  ended (s ∷ firsts) (row ∷ rows) [] h = absurd h
  ended (s ∷ firsts) (row ∷ rows) (x ∷ items) h =
      let r = ended firsts rows items h.1 in
      record {
        done = row ∷ r.done;
        fields = r.fields;
        own = x ∷ r.own;
        item = r.item;
        parted = ap (λ (t : Rows). row ∷ t) r.parted;
        told = ap (λ (t : List Item). x ∷ t) r.told;
        spelled = (h.0, r.spelled);
        last = r.last;
      }

  module _ (rows : Rows) (items : List Item) (h : AreSpelled names (slots (length names)) rows items) where
    parts : Ended (open_slots (length names)) rows items
    parts = ended (open_slots (length names)) rows items (subst (λ (ss : List Slot). AreSpelled names ss rows items) (slots_end (length names)) h)

    whole_ended : list_any is_end items ≡ true
    whole_ended =
        ap (list_any is_end) parts.told ∙ list_any-append is_end parts.own (parts.item ∷ []) ∙ ap (λ (b : Bool). list_any is_end parts.own || (b || false)) (ap is_end parts.last.0) ∙ or_true (list_any is_end parts.own)

    whole_good : AreGood rules [] rows items
    whole_good =
        let n = length names in
        let all : slots n ≡ [] ++ (open_slots n ++ end_slot ∷ []) = slots_end n in
        let opened = spelled_open (open_slots n) parts.done parts.own (open_so n) parts.spelled in
        let front = spelled_good [] (open_slots n) (end_slot ∷ []) parts.done [] parts.own all refl refl (open_so n) parts.spelled in
        let last : IsGood rules parts.own parts.fields parts.item = record {
          open_yet = opened;
          spells = record { slot = end_slot; next = next_slot (open_slots n) [] end_slot parts.own (slots_end n) (spelled_length (open_slots n) parts.done parts.own parts.spelled).1; spells = parts.last };
          within = subst IsWithinLimits (sym parts.last.0) tt;
        } in
        subst (λ (t : Rows). AreGood rules [] t items) (sym parts.parted)
        (subst (λ (t : List Item). AreGood rules [] (parts.done ++ parts.fields ∷ []) t) (sym parts.told) (good_then [] parts.done (parts.fields ∷ []) parts.own (parts.item ∷ []) front (last, tt)))

  module _ (rows : Rows) (first : List (List ℕ)) (mid : Rows) (parted : rows ≡ first ∷ mid) (header : IsPeakedHeader first places) where
    pub whole_read : (x : Peaked) (later : ℕ) → Takes names (slots (length names)) (items_of x) 1 mid later [] → IsShaped (length names) x → x.places ≡ places → PeakedRead names rows (Ok x)
    whole_read x later t shaped e =
        let all : mid ≡ t.done = t.parted ∙ append-nil t.done in
        let spelled = subst (λ (r : Rows). AreSpelled names (slots (length names)) r (items_of x)) (sym all) t.spelled in
        record {
          head = places;
          items = items_of x;
          reads = record { first = first; others = mid; parted = parted; header = header; good = whole_good mid (items_of x) spelled };
          ended = whole_ended mid (items_of x) spelled;
          made = record { header = e; told = refl; shaped = shaped };
        }

    pub after_read : (items : List Item) (later at : ℕ) (fields : List (List ℕ)) (more : Rows) → Takes names (slots (length names)) items 1 mid later (fields ∷ more) → at ≡ later + 1 → StopsAt g rows at IsAfterEnd
    after_read items later at fields more t e = record {
      before = first ∷ t.done;
      fields = fields;
      after = more;
      parted = parted ∙ ap (λ (r : Rows). first ∷ r) t.parted;
      head = places;
      items = items;
      reads = record { first = first; others = t.done; parted = refl; header = header; good = whole_good t.done items t.spelled };
      counted = omega (arith, e, t.counted);
      fault = whole_ended t.done items t.spelled;
    }

    -- where it stops
    module _ (before behind : List Slot) (slot : Slot) (asked : slots (length names) ≡ before ++ slot ∷ behind) where
      front_open : AreOpen before
      front_open = open_before (open_slots (length names)) before behind slot (open_so (length names)) (sym (slots_end (length names)) ∙ asked)

      front_good : (done : Rows) (items : List Item) → AreSpelled names before done items → AreGood rules [] done items
      front_good done items h = spelled_good [] before (slot ∷ behind) done [] items asked refl refl front_open h

      front_ends : (done : Rows) (items : List Item) → AreSpelled names before done items → list_any is_end items ≡ false
      front_ends done items h = spelled_open before done items front_open h

      at_slot : (done : Rows) (items : List Item) (fields : List (List ℕ)) (item : Item) → AreSpelled names before done items → SpellsNext names items fields item → SpellsSlot names slot fields item
      at_slot done items fields item h s =
          let same : s.slot ≡ slot = let e = s.next in let f = next_slot before behind slot items asked (spelled_length before done items h).1 in cc in
          subst (λ (t : Slot). SpellsSlot names t fields item) same s.spells

      to_slot : (done : Rows) (items : List Item) (fields : List (List ℕ)) (item : Item) → AreSpelled names before done items → SpellsSlot names slot fields item → SpellsNext names items fields item
      to_slot done items fields item h s = record { slot = slot; next = next_slot before behind slot items asked (spelled_length before done items h).1; spells = s }

    stops_so : (F : Slot → List (List ℕ) → Type 0) (at : ℕ) (G : Rules Item → List Item → List (List ℕ) → Type 0) (s : StopsIn names (slots (length names)) 1 mid at F) → G rules s.items s.fields → StopsAt g rows at G
    stops_so F at G s fault = record {
      before = first ∷ s.done;
      fields = s.fields;
      after = s.after;
      parted = parted ∙ ap (λ (r : Rows). first ∷ r) s.parted;
      head = places;
      items = s.items;
      reads = record { first = first; others = s.done; parted = refl; header = header; good = front_good s.before s.behind s.slot s.asked s.done s.items s.spelled };
      counted = omega (arith, s.counted);
      fault = fault;
    }

    pub part_fault : (e : SheetFault) → PartFault names (slots (length names)) 1 mid e → PeakedRead names rows (Err e)
    part_fault fault.BadHeader s = absurd s
    part_fault (fault.BadRecord at) s = stops_so (SaysNothing names) at IsBad s (record {
      open_yet = front_ends s.before s.behind s.slot s.asked s.done s.items s.spelled;
      breaks = λ item h. s.fault item (at_slot s.before s.behind s.slot s.asked s.done s.items s.fields item s.spelled h);
    })
    part_fault (fault.NumberTooLarge at) s = stops_so (SaysTooMuch names) at IsTooLarge s (record {
      open_yet = front_ends s.before s.behind s.slot s.asked s.done s.items s.spelled;
      item = s.fault.item;
      spells = to_slot s.before s.behind s.slot s.asked s.done s.items s.fields s.fault.item s.spelled s.fault.spells;
      beyond = s.fault.beyond;
    })
    part_fault fault.NoEnd s = record {
      head = places;
      items = s.items;
      reads = record { first = first; others = mid; parted = parted; header = header; good = front_good s.before s.behind s.slot s.asked mid s.items s.spelled };
      open_yet = front_ends s.before s.behind s.slot s.asked mid s.items s.spelled;
    }
    part_fault (fault.AfterEnd at) s = absurd s
    part_fault fault.Memory s = tt

pub header_fault : (names : List (List ℕ)) (rows left : Rows) (number later : ℕ) (e : SheetFault) → PlacesRead number rows later left (Err e) → PeakedRead names rows (Err e)
header_fault names rows left number later fault.BadHeader h = h
header_fault names rows left number later (fault.BadRecord at) h = absurd h
header_fault names rows left number later (fault.NumberTooLarge at) h = absurd h
header_fault names rows left number later fault.NoEnd h = absurd h
header_fault names rows left number later (fault.AfterEnd at) h = absurd h
header_fault names rows left number later fault.Memory h = tt

-- an error that is passed on
pub passed_whole : (names : List (List ℕ)) (rows : Rows) (r : Result Peaked SheetFault) (e : SheetFault) → IsErr r → IsErrAnd r (λ f. f ≡ e) → PeakedRead names rows (Err e) → PeakedRead names rows r
passed_whole names rows (Ok x) e i a p = absurd (cc)
passed_whole names rows (Err f) e i a p = subst (λ (t : SheetFault). PeakedRead names rows (Err t)) (sym a) p

pub header_read : (rows left : Rows) (first : List (List ℕ)) → rows ≡ first ∷ left → ((places : ℕ) → IsPeakedHeader first places → ⊥) → (one : List (List ℕ)) (others : Rows) (places : ℕ) → rows ≡ one ∷ others → IsPeakedHeader one places → ⊥
header_read rows left first e no_header one others places other h =
    let same : one ≡ first = let both : one ∷ others ≡ first ∷ left = sym other ∙ e in cc in
    no_header places (subst (λ (t : List (List ℕ)). IsPeakedHeader t places) same h)
