-- Parts of a peaked sheet's records make larger parts.
use Rattle.std.proofs.Common.{◌≡◌, ℕ, zero, suc, ◌+◌, ◌-◌, ◌<◌, List, [], ◌∷◌, ◌++◌, map, length, Result, Ok, Err, refl, sym, ap, subst, ◌∙◌, append_assoc, append-nil, length-append, arith}
use Rattle.std.specs.Result.{IsErr, IsErrAnd}
use Rattle.std.specs.List.{range_with_len, flat_map}
use Rattle.std.proofs.lemmas.List.{map-append}
use Rattle.std.proofs.lemmas.List.Concat.{flat_map-append, flat_map_single}
use Rattle.ofit_sheet.specs.declared.fault.RecordFault.{RecordFault}
use Rattle.ofit_sheet.specs.declared.fault.RecordFault.TheVariants.{Bad, TooLarge}
use Rattle.ofit_sheet.specs.declared.fault.SheetFault.{SheetFault}
use Rattle.ofit_sheet.specs.declared.fault.SheetFault.TheVariants as fault
use Rattle.ofit_sheet.specs.Reading.{IsReading}
use Rattle.ofit_sheet.specs.Slots.{Slot}
use Rattle.ofit_sheet.specs.PeakedRead.{Item, SpellsSlot, IsWithinLimits}
use Rattle.ofit_sheet.specs.PeakedSteps.{AreSpelled, Takes, StopsIn, EndsIn, PartFault, PartRead, Advances, fault_of}

abbrev Rows : Type 0
Rows = List (List (List ℕ))

module _ (names : List (List ℕ)) where
  pub spelled_then : (ss ts : List Slot) (rows more : Rows) (xs ys : List Item) → AreSpelled names ss rows xs → AreSpelled names ts more ys → AreSpelled names (ss ++ ts) (rows ++ more) (xs ++ ys)
  spelled_then [] ts [] more [] ys h k = k
  spelled_then [] ts [] more (x ∷ xs) ys h k = absurd h
  spelled_then [] ts (row ∷ rows) more xs ys h k = absurd h
  spelled_then (s ∷ ss) ts [] more xs ys h k = absurd h
  spelled_then (s ∷ ss) ts (row ∷ rows) more [] ys h k = absurd h
  spelled_then (s ∷ ss) ts (row ∷ rows) more (x ∷ xs) ys h k = (h.0, spelled_then ss ts rows more xs ys h.1 k)

  pub takes_none : (number : ℕ) (rows : Rows) → Takes names [] [] number rows number rows
  takes_none number rows = record { done = []; parted = refl; spelled = tt; counted = omega arith }

  pub takes_then : (ss ts : List Slot) (xs ys : List Item) (n0 n1 n2 : ℕ) (rows mid left : Rows) → Takes names ss xs n0 rows n1 mid → Takes names ts ys n1 mid n2 left → Takes names (ss ++ ts) (xs ++ ys) n0 rows n2 left
  takes_then ss ts xs ys n0 n1 n2 rows mid left h k = record {
    done = h.done ++ k.done;
    parted = h.parted ∙ ap (λ (t : Rows). h.done ++ t) k.parted ∙ sym (append_assoc h.done k.done left);
    spelled = spelled_then ss ts h.done k.done xs ys h.spelled k.spelled;
    counted = omega (arith, h.counted, k.counted, length-append h.done k.done);
  }

  -- what number and records to come make together stays
  pub room_kept : (ss : List Slot) (xs : List Item) (n0 n1 : ℕ) (rows left : Rows) → Takes names ss xs n0 rows n1 left → n1 + length left ≡ n0 + length rows
  room_kept ss xs n0 n1 rows left h = omega (arith, h.counted, ap length h.parted, length-append h.done left)

  stops_behind : (F : Slot → List (List ℕ) → Type 0) (ss ts : List Slot) (xs : List Item) (n0 n1 at : ℕ) (rows mid : Rows) → Takes names ss xs n0 rows n1 mid → StopsIn names ts n1 mid at F → StopsIn names (ss ++ ts) n0 rows at F
  stops_behind F ss ts xs n0 n1 at rows mid h s = record {
    before = ss ++ s.before;
    slot = s.slot;
    behind = s.behind;
    asked = ap (λ (t : List Slot). ss ++ t) s.asked ∙ sym (append_assoc ss s.before (s.slot ∷ s.behind));
    done = h.done ++ s.done;
    fields = s.fields;
    after = s.after;
    parted = h.parted ∙ ap (λ (t : Rows). h.done ++ t) s.parted ∙ sym (append_assoc h.done s.done (s.fields ∷ s.after));
    items = xs ++ s.items;
    spelled = spelled_then ss s.before h.done s.done xs s.items h.spelled s.spelled;
    counted = omega (arith, h.counted, s.counted, length-append h.done s.done);
    fault = s.fault;
  }

  ends_behind : (ss ts : List Slot) (xs : List Item) (n0 n1 : ℕ) (rows mid : Rows) → Takes names ss xs n0 rows n1 mid → EndsIn names ts mid → EndsIn names (ss ++ ts) rows
  ends_behind ss ts xs n0 n1 rows mid h s = record {
    before = ss ++ s.before;
    slot = s.slot;
    behind = s.behind;
    asked = ap (λ (t : List Slot). ss ++ t) s.asked ∙ sym (append_assoc ss s.before (s.slot ∷ s.behind));
    items = xs ++ s.items;
    spelled = subst (λ (t : Rows). AreSpelled names (ss ++ s.before) t (xs ++ s.items)) (sym h.parted) (spelled_then ss s.before h.done mid xs s.items h.spelled s.spelled);
  }

  -- a fault behind records that were taken
  pub fault_behind : (e : SheetFault) (ss ts : List Slot) (xs : List Item) (n0 n1 : ℕ) (rows mid : Rows) → Takes names ss xs n0 rows n1 mid → PartFault names ts n1 mid e → PartFault names (ss ++ ts) n0 rows e
  fault_behind fault.BadHeader ss ts xs n0 n1 rows mid h s = absurd s
  fault_behind (fault.BadRecord at) ss ts xs n0 n1 rows mid h s = stops_behind _ ss ts xs n0 n1 at rows mid h s
  fault_behind (fault.NumberTooLarge at) ss ts xs n0 n1 rows mid h s = stops_behind _ ss ts xs n0 n1 at rows mid h s
  fault_behind fault.NoEnd ss ts xs n0 n1 rows mid h s = ends_behind ss ts xs n0 n1 rows mid h s
  fault_behind (fault.AfterEnd at) ss ts xs n0 n1 rows mid h s = absurd s
  fault_behind fault.Memory ss ts xs n0 n1 rows mid h s = tt

  stops_front : (F : Slot → List (List ℕ) → Type 0) (ts us : List Slot) (n0 at : ℕ) (rows : Rows) → StopsIn names ts n0 rows at F → StopsIn names (ts ++ us) n0 rows at F
  stops_front F ts us n0 at rows s = record {
    before = s.before;
    slot = s.slot;
    behind = s.behind ++ us;
    asked = ap (λ (t : List Slot). t ++ us) s.asked ∙ append_assoc s.before (s.slot ∷ s.behind) us;
    done = s.done;
    fields = s.fields;
    after = s.after;
    parted = s.parted;
    items = s.items;
    spelled = s.spelled;
    counted = s.counted;
    fault = s.fault;
  }

  -- a fault before other slots
  pub fault_front : (e : SheetFault) (ts us : List Slot) (n0 : ℕ) (rows : Rows) → PartFault names ts n0 rows e → PartFault names (ts ++ us) n0 rows e
  fault_front fault.BadHeader ts us n0 rows s = absurd s
  fault_front (fault.BadRecord at) ts us n0 rows s = stops_front _ ts us n0 at rows s
  fault_front (fault.NumberTooLarge at) ts us n0 rows s = stops_front _ ts us n0 at rows s
  fault_front fault.NoEnd ts us n0 rows s = record { before = s.before; slot = s.slot; behind = s.behind ++ us; asked = ap (λ (t : List Slot). t ++ us) s.asked ∙ append_assoc s.before (s.slot ∷ s.behind) us; items = s.items; spelled = s.spelled }
  fault_front (fault.AfterEnd at) ts us n0 rows s = absurd s
  fault_front fault.Memory ts us n0 rows s = tt

  module _ (slot : Slot) (number later : ℕ) (rows left : Rows) (fields : List (List ℕ)) where
    -- no next record
    pub none_left : (e : SheetFault) → Advances number rows fields later left (Err e) → PartFault names (slot ∷ []) number rows e
    none_left fault.BadHeader h = absurd h
    none_left (fault.BadRecord at) h = absurd h
    none_left (fault.NumberTooLarge at) h = absurd h
    none_left fault.NoEnd h = record { before = []; slot = slot; behind = []; asked = refl; items = []; spelled = subst (λ (t : Rows). AreSpelled names [] t []) (sym h) tt }
    none_left (fault.AfterEnd at) h = absurd h
    none_left fault.Memory h = tt

    module _ (next : (rows ≡ fields ∷ left) × (later ≡ number + 1)) where
      -- the next record is what the slot asks for
      pub slot_takes : (item : Item) → SpellsSlot names slot fields item × IsWithinLimits item → Takes names (slot ∷ []) (item ∷ []) number rows later left
      slot_takes item h = record { done = fields ∷ []; parted = next.0; spelled = (h, tt); counted = omega (arith, next.1) }

      -- or it isn't
      pub slot_fault : (f : RecordFault) → IsReading {X = Item} (SpellsSlot names slot fields) IsWithinLimits (Err f) → PartFault names (slot ∷ []) number rows (fault_of later f)
      slot_fault Bad h = record { before = []; slot = slot; behind = []; asked = refl; done = []; fields = fields; after = left; parted = next.0; items = []; spelled = tt; counted = omega (arith, next.1); fault = h }
      slot_fault TooLarge h = record {
        before = [];
        slot = slot;
        behind = [];
        asked = refl;
        done = [];
        fields = fields;
        after = left;
        parted = next.0;
        items = [];
        spelled = tt;
        counted = omega (arith, next.1);
        fault = record { item = h.0; spells = h.1; beyond = h.2 };
      }

-- ranges in two parts
pub range_split : (m n k a b : ℕ) → k ≡ m + n → b ≡ a + m → range_with_len a k ≡ range_with_len a m ++ range_with_len b n
range_split zero n k a b e f =
    let counts : k ≡ n = omega (arith, e) in
    let starts : a ≡ b = omega (arith, f) in
    λ i. range_with_len (starts i) (counts i)
range_split (suc m) n zero a b e f = absurd (omega (arith, e))
range_split (suc m) n (suc k) a b e f = ap (λ (t : List ℕ). a ∷ t) (range_split m n k (a + 1) b (omega (arith, e)) (omega (arith, f)))

module _ {X : Type 0} (f : ℕ → List X) (a k p : ℕ) (at : p ≡ a + k) where
  pub part_more : flat_map f (range_with_len a (k + 1)) ≡ flat_map f (range_with_len a k) ++ f p
  part_more = ap (flat_map f) (range_split k 1 (k + 1) a p refl at) ∙ flat_map-append f (range_with_len a k) (p ∷ []) ∙ ap (λ (t : List X). flat_map f (range_with_len a k) ++ t) (append-nil (f p))

  pub part_rest : (count : ℕ) → k < count → flat_map f (range_with_len a count) ≡ flat_map f (range_with_len a k) ++ (f p ++ flat_map f (range_with_len (p + 1) (count - suc k)))
  part_rest count l = ap (flat_map f) (range_split k (suc (count - suc k)) count a p (omega (arith, l)) at) ∙ flat_map-append f (range_with_len a k) (p ∷ range_with_len (p + 1) (count - suc k))

-- the loops over parts
module _ (names : List (List ℕ)) (f : ℕ → List Slot) (a k p : ℕ) (at : p ≡ a + k) (xs : List Item) (n0 n1 : ℕ) (rows mid : Rows) (h : Takes names (flat_map f (range_with_len a k)) xs n0 rows n1 mid) where
  pub loop_more : (ys all : List Item) (n2 : ℕ) (left : Rows) → Takes names (f p) ys n1 mid n2 left → all ≡ xs ++ ys → Takes names (flat_map f (range_with_len a (k + 1))) all n0 rows n2 left
  loop_more ys all n2 left t e =
      subst (λ (ss : List Slot). Takes names ss all n0 rows n2 left) (sym (part_more f a k p at))
      (subst (λ (zs : List Item). Takes names (flat_map f (range_with_len a k) ++ f p) zs n0 rows n2 left) (sym e) (takes_then names (flat_map f (range_with_len a k)) (f p) xs ys n0 n1 n2 rows mid left h t))

  pub loop_fault : (count : ℕ) → k < count → (e : SheetFault) → PartFault names (f p) n1 mid e → PartFault names (flat_map f (range_with_len a count)) n0 rows e
  loop_fault count l e s =
      let us = flat_map f (range_with_len (p + 1) (count - suc k)) in
      subst (λ (ss : List Slot). PartFault names ss n0 rows e) (sym (part_rest f a k p at count l)) (fault_behind names e (flat_map f (range_with_len a k)) (f p ++ us) xs n0 n1 rows mid h (fault_front names e (f p) us n1 mid s))

-- an error that is passed on
pub passed_on : {X : Type 0} (names : List (List ℕ)) (ss : List Slot) (told : X → List Item) (n0 n1 : ℕ) (rows left : Rows) (r : Result X SheetFault) (e : SheetFault) → IsErr r → IsErrAnd r (λ f. f ≡ e) → PartFault names ss n0 rows e
    → PartRead names ss told n0 rows n1 left r
passed_on names ss told n0 n1 rows left (Ok x) e i a p = absurd (cc)
passed_on names ss told n0 n1 rows left (Err f) e i a p = subst (λ (t : SheetFault). PartFault names ss n0 rows t) (sym a) p

-- loops over single records
module _ (names : List (List ℕ)) (f : ℕ → Slot) where
  pub map_all : (ks : List ℕ) (xs : List Item) (n0 n1 : ℕ) (rows mid : Rows) → Takes names (flat_map (λ k. f k ∷ []) ks) xs n0 rows n1 mid → Takes names (map f ks) xs n0 rows n1 mid
  map_all ks xs n0 n1 rows mid h = subst (λ (ss : List Slot). Takes names ss xs n0 rows n1 mid) (flat_map_single f ks) h

  pub map_fault : (a k p : ℕ) → p ≡ a + k → (xs : List Item) (n0 n1 : ℕ) (rows mid : Rows) → Takes names (flat_map (λ k. f k ∷ []) (range_with_len a k)) xs n0 rows n1 mid → (count : ℕ) → k < count → (e : SheetFault) → PartFault names (f p ∷ []) n1 mid e
      → PartFault names (map f (range_with_len a count)) n0 rows e
  map_fault a k p at xs n0 n1 rows mid h count l e s =
      subst (λ (ss : List Slot). PartFault names ss n0 rows e) (flat_map_single f (range_with_len a count)) (loop_fault names (λ k. f k ∷ []) a k p at xs n0 n1 rows mid h count l e s)

-- items with one more
pub map_push : {X : Type 0} (f : X → Item) (old new : List X) (x : X) → new ≡ old ++ x ∷ [] → map f new ≡ map f old ++ f x ∷ []
map_push {X} f old new x e = ap (map f) e ∙ map-append f old (x ∷ [])

pub flat_push : {X : Type 0} (f : X → List Item) (old new : List X) (x : X) → new ≡ old ++ x ∷ [] → flat_map f new ≡ flat_map f old ++ f x
flat_push {X} f old new x e = ap (flat_map f) e ∙ flat_map-append f old (x ∷ []) ∙ ap (λ (t : List Item). flat_map f old ++ t) (append-nil (f x))
