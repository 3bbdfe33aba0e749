-- The rows of edge numbers, one edge at a time.
use Rattle.std.proofs.Common.{◌≡◌, ◌≢◌, ℕ, zero, suc, ◌<◌, ◌≤◌, ◌+◌, ◌-◌, ◌*◌, ◌⊎◌, refl, ap, sym, ◌∙◌, subst, arith, add-one, Bool, true, false, cond, eqb, List, [], ◌∷◌, ◌++◌, length, inl, inr, set, take, drop, get_or}
use Rattle.std.specs.List.{All, Contains}
use Rattle.std.proofs.lemmas.Bool.{cases_eq, cases_lt, eq-eqb, ne_eqb}
use Rattle.std.proofs.lemmas.List.{length-set, length-drop, get_or-set_same, get_or-set_other, drop-set-add, drop-set-lt, take-set-le, take_more_set, take_all}
use Rattle.std.proofs.lemmas.List.Elements.{Contains-append_left, Contains-push, Contains-push_cases}
use Rattle.ofit_flow.specs.declared.edge.Edge.{Edge}
use Rattle.ofit_flow.specs.declared.rows.Rows.{Rows}
use Rattle.ofit_flow.specs.Flow.{edge_at, no_edge}
use Rattle.ofit_flow.specs.Network.{CanAdd}
use Rattle.ofit_flow.specs.Residual.{Touches}
use Rattle.ofit_flow.specs.Incidence.{degree, part_at, row_of, AreStarts, AreRows, IsListing, IsIncidence, ListsAlso}

-- how many ends of one edge are this node
abbrev pub ends_at : Edge → ℕ → ℕ
ends_at e v = cond (eqb e.from v) 1 0 + cond (eqb e.to v) 1 0

pub degree-more : (es : List Edge) (count v : ℕ) → count < length es → degree (take (suc count) es) v ≡ degree (take count es) v + ends_at (edge_at es count) v
degree-more [] count v b = absurd (omega arith)
degree-more (e ∷ es) zero v b = refl
degree-more (e ∷ es) (suc count) v b = omega (arith, degree-more es count v (omega arith))

pub degree-take : (es : List Edge) (count v : ℕ) → degree (take count es) v ≤ degree es v
degree-take [] zero v = omega arith
degree-take [] (suc count) v = omega arith
degree-take (e ∷ es) zero v = omega arith
degree-take (e ∷ es) (suc count) v = omega (arith, degree-take es count v)

one_or_none : (b : Bool) → cond b 1 0 ≤ 1
one_or_none true = omega arith
one_or_none false = omega arith

pub degree-small : (es : List Edge) (v : ℕ) → degree es v ≤ 2 * length es
degree-small [] v = omega arith
degree-small (e ∷ es) v = omega (arith, degree-small es v, one_or_none (eqb e.from v), one_or_none (eqb e.to v))

ends-from : (e : Edge) → e.from ≢ e.to → ends_at e e.from ≡ 1
ends-from e d = omega (arith, ap {B = ℕ} (λ (b : Bool). cond b 1 0) (eq-eqb e.from e.from refl), ap {B = ℕ} (λ (b : Bool). cond b 1 0) (ne_eqb e.to e.from (λ h. d (sym h))))

ends-to : (e : Edge) → e.from ≢ e.to → ends_at e e.to ≡ 1
ends-to e d = omega (arith, ap {B = ℕ} (λ (b : Bool). cond b 1 0) (eq-eqb e.to e.to refl), ap {B = ℕ} (λ (b : Bool). cond b 1 0) (ne_eqb e.from e.to d))

ends-other : (e : Edge) (v : ℕ) → v ≢ e.from → v ≢ e.to → ends_at e v ≡ 0
ends-other e v d f = omega (arith, ap {B = ℕ} (λ (b : Bool). cond b 1 0) (ne_eqb e.from v (λ h. d (sym h))), ap {B = ℕ} (λ (b : Bool). cond b 1 0) (ne_eqb e.to v (λ h. f (sym h))))

-- two counts that each rise by one, at the two ends of an edge
pub raised_ends : (xs : List ℕ) (e : Edge) (v : ℕ) → e.from ≢ e.to → e.from < length xs → e.to < length xs → get_or (set (set xs e.from (get_or xs e.from 0 + 1)) e.to (get_or xs e.to 0 + 1)) v 0 ≡ get_or xs v 0 + ends_at e v
raised_ends xs e v d f t =
    let once : List ℕ = set xs e.from (get_or xs e.from 0 + 1) in
    elim (cases_eq v e.to) [
      | inl is ↦ omega (arith, ap (λ (n : ℕ). get_or (set (set xs e.from (get_or xs e.from 0 + 1)) e.to (get_or xs e.to 0 + 1)) n 0) is, get_or-set_same (set xs e.from (get_or xs e.from 0 + 1)) e.to (get_or xs e.to 0 + 1) 0 (omega (arith, length-set xs e.from (get_or xs e.from 0 + 1), t)), ap (λ (n : ℕ). get_or xs n 0) is, ap (ends_at e) is, ends-to e d)
      | inr isnt ↦ elim (cases_eq v e.from) [
        | inl is ↦ omega (arith, get_or-set_other (set xs e.from (get_or xs e.from 0 + 1)) e.to v (get_or xs e.to 0 + 1) 0 isnt, ap (λ (n : ℕ). get_or (set xs e.from (get_or xs e.from 0 + 1)) n 0) is, get_or-set_same xs e.from (get_or xs e.from 0 + 1) 0 f, ap (λ (n : ℕ). get_or xs n 0) is, ap (ends_at e) is, ends-from e d)
        | inr other ↦ omega (arith, get_or-set_other (set xs e.from (get_or xs e.from 0 + 1)) e.to v (get_or xs e.to 0 + 1) 0 isnt, get_or-set_other xs e.from v (get_or xs e.from 0 + 1) 0 other, ends-other e v other isnt)
      ]
    ]

-- rows of no number
pub listing_none : (es : List Edge) (n : ℕ) (row : ℕ → List ℕ) → ((v : ℕ) → v < n → row v ≡ []) → IsListing es n 0 row
listing_none es n row h = record {
  from_listed = λ k b. absurd (omega arith);
  to_listed = λ k b. absurd (omega arith);
  below = λ v k v_in has. absurd (none v k v_in has);
  touching = λ v k v_in has. absurd (none v k v_in has);
} where
  none : (v k : ℕ) → v < n → Contains (row v) k → ⊥
  none v k v_in has = omega (arith, ap length (h v v_in), has.1)

ListsAlso-kept : (n : ℕ) (old new : ℕ → List ℕ) (v k : ℕ) → ListsAlso n old new v k → (w i : ℕ) → w < n → Contains (old w) i → Contains (new w) i
ListsAlso-kept n old new v k x w i w_in h = elim (cases_eq w v) [
  | inl is ↦ subst (λ (u : ℕ). Contains (new u) i) (sym is) (subst (λ (r : List ℕ). Contains r i) (sym x.row) (Contains-append_left (old v) (k ∷ []) i (subst (λ (u : ℕ). Contains (old u) i) is h)))
  | inr isnt ↦ subst (λ (r : List ℕ). Contains r i) (sym (x.others w w_in isnt)) h
]

ListsAlso-new : (n : ℕ) (old new : ℕ → List ℕ) (v k : ℕ) → ListsAlso n old new v k → Contains (new v) k
ListsAlso-new n old new v k x = subst (λ (r : List ℕ). Contains r k) (sym x.row) (Contains-push (old v) k)

ListsAlso-cases : (n : ℕ) (old new : ℕ → List ℕ) (v k : ℕ) → ListsAlso n old new v k → (w i : ℕ) → w < n → Contains (new w) i → Contains (old w) i ⊎ ((w ≡ v) × (k ≡ i))
ListsAlso-cases n old new v k x w i w_in h = elim (cases_eq w v) [
  | inl is ↦ elim (Contains-push_cases (old v) k i (subst (λ (r : List ℕ). Contains r i) x.row (subst (λ (u : ℕ). Contains (new u) i) is h))) [
    | inl old_has ↦ inl (subst (λ (u : ℕ). Contains (old u) i) (sym is) old_has)
    | inr same ↦ inr (is, same)
  ]
  | inr isnt ↦ inl (subst (λ (r : List ℕ). Contains r i) (x.others w w_in isnt) h)
]

-- an edge is listed for both its ends
pub listing_more : (es : List Edge) (n count : ℕ) (row row' row'' : ℕ → List ℕ) → ((k : ℕ) → k < suc count → ((edge_at es k).from < n) × ((edge_at es k).to < n)) → IsListing es n count row → ListsAlso n row row' (edge_at es count).from count → ListsAlso n row' row'' (edge_at es count).to count → IsListing es n (count + 1) row''
listing_more es n count row row' row'' ends h x y = record {
  from_listed = λ k b. elim (cases_eq k count) [
    | inl is ↦ subst (λ (i : ℕ). Contains (row'' (edge_at es i).from) i) (sym is) (ListsAlso-kept n row' row'' e.to count y e.from count (ends count (omega arith)).0 (ListsAlso-new n row row' e.from count x))
    | inr isnt ↦ kept (edge_at es k).from k (ends k (omega arith)).0 (h.from_listed k (omega arith))
  ];
  to_listed = λ k b. elim (cases_eq k count) [
    | inl is ↦ subst (λ (i : ℕ). Contains (row'' (edge_at es i).to) i) (sym is) (ListsAlso-new n row' row'' e.to count y)
    | inr isnt ↦ kept (edge_at es k).to k (ends k (omega arith)).1 (h.to_listed k (omega arith))
  ];
  below = λ v k v_in has. elim (cases v k v_in has) [
    | inl old ↦ omega (arith, h.below v k v_in old)
    | inr new ↦ omega (arith, new.0)
  ];
  touching = λ v k v_in has. elim (cases v k v_in has) [
    | inl old ↦ h.touching v k v_in old
    | inr new ↦ subst (λ (i : ℕ). Touches (edge_at es i) v) new.0 new.1
  ];
} where
  e : Edge
  e = edge_at es count

  kept : (w i : ℕ) → w < n → Contains (row w) i → Contains (row'' w) i
  kept w i w_in has = ListsAlso-kept n row' row'' (edge_at es count).to count y w i w_in (ListsAlso-kept n row row' (edge_at es count).from count x w i w_in has)

  cases : (w i : ℕ) → w < n → Contains (row'' w) i → Contains (row w) i ⊎ ((count ≡ i) × Touches (edge_at es count) w)
  cases w i w_in has = elim (ListsAlso-cases n row' row'' (edge_at es count).to count y w i w_in has) [
    | inl had ↦ elim (ListsAlso-cases n row row' (edge_at es count).from count x w i w_in had) [
      | inl old ↦ inl old
      | inr new ↦ inr (new.1, inl (sym new.0))
    ]
    | inr new ↦ inr (new.1, inr (sym new.0))
  ]

-- a number put at a place, seen from a place before it or behind it
put_within : (numbers : List ℕ) (start place k n : ℕ) → start ≤ place → n ≤ place - start → take n (drop start (set numbers place k)) ≡ take n (drop start numbers)
put_within numbers start place k n low less =
    let parted : place ≡ start + (place - start) = omega arith in
    ap (λ (p : ℕ). take n (drop start (set numbers p k))) parted ∙ ap (take n) (drop-set-add start numbers (place - start) k) ∙ take-set-le n (drop start numbers) (place - start) k less

put_at_end : (numbers : List ℕ) (start place k : ℕ) → start ≤ place → place < length numbers → take (place + 1 - start) (drop start (set numbers place k)) ≡ take (place - start) (drop start numbers) ++ k ∷ []
put_at_end numbers start place k low high =
    let parted : place ≡ start + (place - start) = omega arith in
    let longer : place + 1 - start ≡ (place - start) + 1 = omega arith in
    ap (λ (p : ℕ). take (place + 1 - start) (drop start (set numbers p k))) parted
    ∙ ap (take (place + 1 - start)) (drop-set-add start numbers (place - start) k)
    ∙ ap (λ (n : ℕ). take n (set (drop start numbers) (place - start) k)) longer
    ∙ take_more_set (drop start numbers) (place - start) k (omega (arith, length-drop start numbers))

-- a number at the end of one part, which no other part reaches
part_write : (n : ℕ) (starts places numbers : List ℕ) (v k : ℕ) → v < length places → get_or starts v 0 ≤ get_or places v 0 → get_or places v 0 < length numbers → ((w : ℕ) → w < n → w ≢ v → (get_or places w 0 ≤ get_or places v 0) ⊎ (get_or places v 0 < get_or starts w 0)) → ListsAlso n (part_at starts places numbers) (part_at starts (set places v (get_or places v 0 + 1)) (set numbers (get_or places v 0) k)) v k
part_write n starts places numbers v k v_in low high apart = record {
  row = ap (λ (p : ℕ). take (p - get_or starts v 0) (drop (get_or starts v 0) (set numbers (get_or places v 0) k))) (get_or-set_same places v (get_or places v 0 + 1) 0 v_in) ∙ put_at_end numbers (get_or starts v 0) (get_or places v 0) k low high;
  others = λ w w_in d.
      ap (λ (p : ℕ). take (p - get_or starts w 0) (drop (get_or starts w 0) (set numbers (get_or places v 0) k))) (get_or-set_other places v w (get_or places v 0 + 1) 0 d)
      ∙ elim (cases_lt (get_or places v 0) (get_or starts w 0)) [
        | inl before ↦ ap (take (get_or places w 0 - get_or starts w 0)) (drop-set-lt (get_or starts w 0) numbers (get_or places v 0) k before)
        | inr behind ↦ elim (apart w w_in d) [
          | inl under ↦ put_within numbers (get_or starts w 0) (get_or places v 0) k (get_or places w 0 - get_or starts w 0) behind (omega (arith, behind, under))
          | inr over ↦ absurd (omega arith)
        ]
      ];
}

-- starts rise
pub starts_rise : (starts : List ℕ) (count : ℕ → ℕ) (n a b : ℕ) → ((v : ℕ) → v < n → get_or starts (v + 1) 0 ≡ get_or starts v 0 + count v) → a ≤ b → b ≤ n → get_or starts a 0 ≤ get_or starts b 0
starts_rise starts count n a zero h le b_in = omega (arith, ap (λ (v : ℕ). get_or starts v 0) (zero_only a le)) where
  zero_only : (a : ℕ) → a ≤ zero → a ≡ zero
  zero_only a le = omega arith
starts_rise starts count n a (suc b) h le b_in = elim (cases_eq a (suc b)) [
  | inl is ↦ omega (arith, ap (λ (v : ℕ). get_or starts v 0) is)
  | inr isnt ↦ omega (arith, starts_rise starts count n a b h (omega arith) (omega arith), h b (omega arith), ap (λ (v : ℕ). get_or starts v 0) (add-one b))
]

-- the first `count` edges have been put into the parts
pub record IsFilled (es : List Edge) (n size count : ℕ) (starts places numbers : List ℕ) : Type 0 where
  pub places_counted : length places ≡ n + 1
  pub numbers_counted : length numbers ≡ size
  pub places_at : (v : ℕ) → v < n → get_or places v 0 ≡ get_or starts v 0 + degree (take count es) v
  pub listing : IsListing es n count (part_at starts places numbers)

pub filled_none : (es : List Edge) (n : ℕ) (starts places numbers : List ℕ) → length places ≡ n + 1 → ((v : ℕ) → v < n → get_or places v 0 ≡ get_or starts v 0) → IsFilled es n (length numbers) 0 starts places numbers
filled_none es n starts places numbers counted same = record {
  places_counted = counted;
  numbers_counted = refl;
  places_at = λ v b. omega (arith, same v b);
  listing = listing_none es n (part_at starts places numbers) (λ v b. ap (λ (k : ℕ). take k (drop (get_or starts v 0) numbers)) (nothing (get_or places v 0) (get_or starts v 0) (same v b)));
} where
  nothing : (a b : ℕ) → a ≡ b → a - b ≡ 0
  nothing a b e = omega arith

module _ (es : List Edge) (n size count : ℕ) (starts places numbers : List ℕ) (rising : (v : ℕ) → v < n → get_or starts (v + 1) 0 ≡ get_or starts v 0 + degree es v) (room : get_or starts n 0 ≤ size) (ends : (k : ℕ) → k < length es → ((edge_at es k).from < n) × ((edge_at es k).to < n) × ((edge_at es k).from ≢ (edge_at es k).to)) (b : count < length es) (h : IsFilled es n size count starts places numbers) where
  abbrev here : Edge
  here = edge_at es count

  more_at : (v : ℕ) → degree (take count es) v + ends_at here v ≤ degree es v
  more_at v = omega (arith, degree-more es count v b, degree-take es (suc count) v)

  in_size : (v : ℕ) → v < n → get_or starts v 0 + degree es v ≤ size
  in_size v v_in = omega (arith, rising v v_in, starts_rise starts (degree es) n (v + 1) n rising (omega arith) (omega arith))

  apart_at : (v p w : ℕ) → v < n → w < n → w ≢ v → get_or starts v 0 ≤ p → p < get_or starts v 0 + degree es v → (q : ℕ) → q ≤ get_or starts w 0 + degree es w → (q ≤ p) ⊎ (p < get_or starts w 0)
  apart_at v p w v_in w_in d low high q q_in = elim (cases_lt w v) [
    | inl under ↦ inl (omega (arith, rising w w_in, starts_rise starts (degree es) n (w + 1) v rising (omega arith) (omega arith)))
    | inr over ↦ inr (omega (arith, rising v v_in, starts_rise starts (degree es) n (v + 1) w rising (omega arith) (omega arith)))
  ]

  pub from_room : get_or places here.from 0 < get_or starts here.from 0 + degree es here.from
  from_room = omega (arith, h.places_at here.from (ends count b).0, more_at here.from, ends-from here (ends count b).2)

  pub from_in : get_or places here.from 0 < length numbers
  from_in = omega (arith, from_room, in_size here.from (ends count b).0, h.numbers_counted)

  abbrev places' : List ℕ
  places' = set places here.from (get_or places here.from 0 + 1)

  abbrev numbers' : List ℕ
  numbers' = set numbers (get_or places here.from 0) count

  first_write : ListsAlso n (part_at starts places numbers) (part_at starts places' numbers') here.from count
  first_write = part_write n starts places numbers here.from count (omega (arith, h.places_counted, (ends count b).0)) (omega (arith, h.places_at here.from (ends count b).0)) from_in
      (λ w w_in d. apart_at here.from (get_or places here.from 0) w (ends count b).0 w_in d (omega (arith, h.places_at here.from (ends count b).0)) from_room (get_or places w 0) (omega (arith, h.places_at w w_in, more_at w)))

  pub to_same : get_or places' here.to 0 ≡ get_or places here.to 0
  to_same = get_or-set_other places here.from here.to (get_or places here.from 0 + 1) 0 (λ e. (ends count b).2 (sym e))

  to_room : get_or places' here.to 0 < get_or starts here.to 0 + degree es here.to
  to_room = omega (arith, to_same, h.places_at here.to (ends count b).1, more_at here.to, ends-to here (ends count b).2)

  pub to_in : get_or places' here.to 0 < length numbers'
  to_in = omega (arith, to_room, in_size here.to (ends count b).1, h.numbers_counted, length-set numbers (get_or places here.from 0) count)

  once_at : (w : ℕ) → w < n → get_or places' w 0 ≤ get_or starts w 0 + degree es w
  once_at w w_in = elim (cases_eq w here.from) [
    | inl is ↦ omega (arith, ap (λ (v : ℕ). get_or places' v 0) is, get_or-set_same places here.from (get_or places here.from 0 + 1) 0 (omega (arith, h.places_counted, (ends count b).0)), from_room, ap (λ (v : ℕ). get_or starts v 0 + degree es v) is)
    | inr isnt ↦ omega (arith, get_or-set_other places here.from w (get_or places here.from 0 + 1) 0 isnt, h.places_at w w_in, more_at w)
  ]

  abbrev places'' : List ℕ
  places'' = set places' here.to (get_or places' here.to 0 + 1)

  abbrev numbers'' : List ℕ
  numbers'' = set numbers' (get_or places' here.to 0) count

  second_write : ListsAlso n (part_at starts places' numbers') (part_at starts places'' numbers'') here.to count
  second_write = part_write n starts places' numbers' here.to count (omega (arith, h.places_counted, (ends count b).1, length-set places here.from (get_or places here.from 0 + 1))) (omega (arith, to_same, h.places_at here.to (ends count b).1)) to_in
      (λ w w_in d. apart_at here.to (get_or places' here.to 0) w (ends count b).1 w_in d (omega (arith, to_same, h.places_at here.to (ends count b).1)) to_room (get_or places' w 0) (once_at w w_in))

  raised : (v : ℕ) → get_or places'' v 0 ≡ get_or places v 0 + ends_at here v
  raised v = ap (λ (x : ℕ). get_or (set places' here.to (x + 1)) v 0) to_same ∙ raised_ends places here v (ends count b).2 (omega (arith, h.places_counted, (ends count b).0)) (omega (arith, h.places_counted, (ends count b).1))

  pub filled_more : IsFilled es n size (count + 1) starts places'' numbers''
  filled_more = record {
    places_counted = length-set places' here.to (get_or places' here.to 0 + 1) ∙ length-set places here.from (get_or places here.from 0 + 1) ∙ h.places_counted;
    numbers_counted = length-set numbers' (get_or places' here.to 0) count ∙ length-set numbers (get_or places here.from 0) count ∙ h.numbers_counted;
    places_at = λ v v_in. omega (arith, raised v, h.places_at v v_in, degree-more es count v b, ap (λ (k : ℕ). degree (take k es) v) (add-one count));
    listing = listing_more es n count (part_at starts places numbers) (part_at starts places' numbers') (part_at starts places'' numbers'')
        (λ k k_in. let e = ends k (omega arith) in (e.0, e.1)) h.listing first_write second_write;
  }

-- once all edges have been put, the parts are the rows
pub filled_all : (es : List Edge) (n size : ℕ) (starts places numbers : List ℕ) → ((v : ℕ) → v < n → get_or starts (v + 1) 0 ≡ get_or starts v 0 + degree es v) → ((k : ℕ) → k < length es → ((edge_at es k).from < n) × ((edge_at es k).to < n) × ((edge_at es k).from ≢ (edge_at es k).to)) → IsFilled es n size (length es) starts places numbers → IsIncidence es n (row_of starts numbers)
filled_all es n size starts places numbers rising ends h = record {
  from_listed = λ k b. subst (λ (r : List ℕ). Contains r k) (sym (same (edge_at es k).from (ends k b).0)) (h.listing.from_listed k b);
  to_listed = λ k b. subst (λ (r : List ℕ). Contains r k) (sym (same (edge_at es k).to (ends k b).1)) (h.listing.to_listed k b);
  below = λ v k v_in has. h.listing.below v k v_in (subst (λ (r : List ℕ). Contains r k) (same v v_in) has);
  touching = λ v k v_in has. h.listing.touching v k v_in (subst (λ (r : List ℕ). Contains r k) (same v v_in) has);
} where
  place_is : (v : ℕ) → v < n → get_or starts (v + 1) 0 ≡ get_or places v 0
  place_is v v_in = omega (arith, rising v v_in, h.places_at v v_in, ap (λ (ds : List Edge). degree ds v) (take_all (length es) es (omega arith)))

  same : (v : ℕ) → v < n → row_of starts numbers v ≡ part_at starts places numbers v
  same v v_in = ap (λ (p : ℕ). take (p - get_or starts v 0) (drop (get_or starts v 0) numbers)) (place_is v v_in)

-- the ends of edges that can be added
pub ends_in : (es : List Edge) (n : ℕ) → All (CanAdd n) es → (k : ℕ) → k < length es → ((edge_at es k).from < n) × ((edge_at es k).to < n) × ((edge_at es k).from ≢ (edge_at es k).to)
ends_in es n adds k b = let e = adds k no_edge b in (e.from_in, e.to_in, e.apart)

-- rows between starts
pub rows_from_starts : (degrees : List ℕ) (rows : Rows) (n : ℕ) → AreStarts degrees rows.starts.items → length degrees ≡ n → length rows.numbers.items ≡ get_or rows.starts.items n 0 → AreRows rows n
rows_from_starts degrees rows n h counted size v v_in = record {
  counted = omega (arith, h.counted);
  rising = omega (arith, h.next v (omega arith));
  within = omega (arith, starts_rise rows.starts.items (λ w. get_or degrees w 0) n (v + 1) n (λ w w_in. h.next w (omega arith)) (omega arith) (omega arith));
}
