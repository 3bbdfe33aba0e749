use Rattle.std.proofs.Common.{◌≡◌, ◌<◌, sym, ap, subst, ◌∙◌, arith, true, length, map}
use Rattle.std.proofs.lemmas.Bool.{both_ways}
use Rattle.std.specs.Prelude.{All, Any}
use Rattle.ofit_num.specs.Meaning.{Meaning}
use Rattle.ofit_num.specs.Fraction.{Fraction}
use Rattle.ofit_num.specs.Problem.{Problem}
use Rattle.ofit_num.specs.Law.{least_at, greatest_at}
use Rattle.ofit_cut.specs.Sets.{total_size}
use Rattle.ofit_partition.specs.Piece.{holds, partition_problem, is_marked, marked, IsInside, AreNumbered, AreParts}
use Rattle.ofit_partition.specs.Cut.{span_sizes, IsPooledValue, AreCutAt}
use Rattle.ofit_partition.proofs.Pools.{least_sizes, greatest_sizes}
use Rattle.ofit_partition.proofs.Cutting.{places_inside, ends_inside, opened, settled, first_ceiling, tie_of, order_falling, order_strictly}
use Rattle.ofit_partition.proofs.cut.cut_piece.Goals as goal

pub greatest_upper-requires-clause-small : goal.greatest_upper-requires-clause-small
greatest_upper-requires-clause-small g c = omega (
  arith,
  ap total_size (c.deref-4.ensures.value ∙ c.in_ok-ends.ensures.least ∙ ap (map (least_at g.L.Loss.meaning (partition_problem c.args.ordered.groups.now c.args.ordered.pairs.now) c.in_ok-value.value)) c.deref-3.ensures.value),
  least_sizes g.L.Loss.meaning (partition_problem c.args.ordered.groups.now c.args.ordered.pairs.now) c.in_ok-value.value c.args.piece.now.places.items,
  (c.in_ok-value.ensures c.args.ordered.pairs.now).small,
  ap (span_sizes g.L.Loss.meaning (partition_problem c.args.ordered.groups.now c.args.ordered.pairs.now) c.in_ok-value.value) c.deref-2.ensures.value,
)

pub greatest_upper-requires-2-clause-small : goal.greatest_upper-requires-2-clause-small
greatest_upper-requires-2-clause-small g c = omega (
  arith,
  ap total_size (c.deref-6.ensures.value ∙ c.in_ok-ends.ensures.greatest ∙ ap (map (greatest_at g.L.Loss.meaning (partition_problem c.args.ordered.groups.now c.args.ordered.pairs.now) c.in_ok-value.value)) c.deref-3.ensures.value),
  greatest_sizes g.L.Loss.meaning (partition_problem c.args.ordered.groups.now c.args.ordered.pairs.now) c.in_ok-value.value c.args.piece.now.places.items,
  (c.in_ok-value.ensures c.args.ordered.pairs.now).small,
  ap (span_sizes g.L.Loss.meaning (partition_problem c.args.ordered.groups.now c.args.ordered.pairs.now) c.in_ok-value.value) c.deref-2.ensures.value,
)

pub split-requires-clause-places : goal.split-requires-clause-places
split-requires-clause-places g c = subst (λ set. All (IsInside c.number_places.new.positions set) c.args.piece.now.places.items) (sym c.deref-then-has_any.ensures.value)
    (places_inside c.number_places.new.positions c.args.piece.now.places.items c.in_ok-first.first.items (subst (AreNumbered c.number_places.new.positions) c.deref.ensures.value c.number_places.ensures) c.in_ok-first.ensures.counted)

pub split-requires-clause-pairs : goal.split-requires-clause-pairs
split-requires-clause-pairs g c = subst (λ set. All (λ e. IsInside c.number_places.new.positions set e.0 × IsInside c.number_places.new.positions set e.1) c.args.piece.now.pairs.items) (sym c.deref-then-has_any.ensures.value)
    (ends_inside (partition_problem c.args.ordered.groups.now c.args.ordered.pairs.now) c.args.piece.now c.number_places.new.positions c.in_ok-first.first.items c.requires.piece (subst (AreNumbered c.number_places.new.positions) c.deref.ensures.value c.number_places.ensures) c.in_ok-first.ensures.counted)

pub split-requires-2-clause-places : goal.split-requires-2-clause-places
split-requires-2-clause-places g c = subst (λ set. All (IsInside c.number_places.new.positions set) c.args.piece.now.places.items) (sym c.deref-7.ensures.value)
    (places_inside c.number_places.new.positions c.args.piece.now.places.items c.in_ok-second.second.items (subst (AreNumbered c.number_places.new.positions) c.deref.ensures.value c.number_places.ensures) c.in_ok-second.ensures.counted)

pub split-requires-2-clause-pairs : goal.split-requires-2-clause-pairs
split-requires-2-clause-pairs g c = subst (λ set. All (λ e. IsInside c.number_places.new.positions set e.0 × IsInside c.number_places.new.positions set e.1) c.args.piece.now.pairs.items) (sym c.deref-7.ensures.value)
    (ends_inside (partition_problem c.args.ordered.groups.now c.args.ordered.pairs.now) c.args.piece.now c.number_places.new.positions c.in_ok-second.second.items c.requires.piece (subst (AreNumbered c.number_places.new.positions) c.deref.ensures.value c.number_places.ensures) c.in_ok-second.ensures.counted)

pub returns-then-has_any : goal.returns-then-has_any
returns-then-has_any g c =
    let m : Meaning = g.L.Loss.meaning in
    let s : Problem = partition_problem c.args.ordered.groups.now c.args.ordered.pairs.now in
    let v : Fraction = c.in_ok-value.value in
    let weights : c.deref-4.result.now ≡ map (least_at m s v) c.args.piece.now.places.items = c.deref-4.ensures.value ∙ c.in_ok-ends.ensures.least ∙ ap (map (least_at m s v)) c.deref-3.ensures.value in
    let r : AreCutAt m s c.args.piece.now c.in_ok-parts.parts v × (0 < length c.in_ok-parts.parts.rest.places.items) = opened m s g.L.Loss.STRICT (order_falling m g.L.Loss.STRICT g.met.L.Loss.laws c.args.ordered.groups.now c.args.ordered.pairs.now c.requires.order.fittable) c.requires.order.places c.args.piece.now c.requires.piece c.requires.some
    c.number_places.new.positions (subst (AreNumbered c.number_places.new.positions) c.deref.ensures.value c.number_places.ensures)
    v (subst (λ places. IsPooledValue m s g.L.Loss.STRICT places v) c.deref-2.ensures.value (c.in_ok-value.ensures c.args.ordered.pairs.now)) c.in_ok-first.first.items c.in_ok-first.ensures.counted
    c.in_ok-parts.parts (subst (λ set. AreParts (is_marked c.number_places.new.positions set) c.args.piece.now c.in_ok-parts.parts) c.deref-then-has_any.ensures.value c.in_ok-parts.ensures)
    (c.in_ok-first.ensures.greatest s (least_at m s v) c.requires.piece weights) (c.in_ok-first.ensures.tied s (least_at m s v) c.requires.piece weights)
    (subst (Any (λ b. b ≡ true)) c.deref-5.ensures.value (c.has_any.ensures.0 c.if-has_any.true)) in
    (v, r.0, r.1)

pub returns : goal.returns
returns g c =
    let m : Meaning = g.L.Loss.meaning in
    let s : Problem = partition_problem c.args.ordered.groups.now c.args.ordered.pairs.now in
    let v : Fraction = c.in_ok-value.value in
    let low : c.deref-4.result.now ≡ map (least_at m s v) c.args.piece.now.places.items = c.deref-4.ensures.value ∙ c.in_ok-ends.ensures.least ∙ ap (map (least_at m s v)) c.deref-3.ensures.value in
    let high : c.deref-6.result.now ≡ map (greatest_at m s v) c.args.piece.now.places.items = c.deref-6.ensures.value ∙ c.in_ok-ends.ensures.greatest ∙ ap (map (greatest_at m s v)) c.deref-3.ensures.value in
    let pooled : IsPooledValue m s g.L.Loss.STRICT c.args.piece.now.places.items v = subst (λ places. IsPooledValue m s g.L.Loss.STRICT places v) c.deref-2.ensures.value (c.in_ok-value.ensures c.args.ordered.pairs.now) in
    settled m s g.L.Loss.STRICT (order_falling m g.L.Loss.STRICT g.met.L.Loss.laws c.args.ordered.groups.now c.args.ordered.pairs.now c.requires.order.fittable) c.requires.order.places c.args.piece.now c.requires.piece c.requires.some
    c.number_places.new.positions (subst (AreNumbered c.number_places.new.positions) c.deref.ensures.value c.number_places.ensures)
    v pooled c.in_ok-second.second.items c.in_ok-second.ensures.counted
    c.in_ok-parts-2.parts (subst (λ set. AreParts (is_marked c.number_places.new.positions set) c.args.piece.now c.in_ok-parts-2.parts) c.deref-7.ensures.value c.in_ok-parts-2.ensures)
    (first_ceiling m s c.requires.order.places (order_falling m g.L.Loss.STRICT g.met.L.Loss.laws c.args.ordered.groups.now c.args.ordered.pairs.now c.requires.order.fittable) c.args.piece.now c.number_places.new.positions v pooled.pooled.den c.in_ok-first.first.items
    (c.in_ok-first.ensures.greatest s (least_at m s v) c.requires.piece low)
    (λ any. both_ways c.has_any.result c.if-has_any.false (c.has_any.ensures.1 (subst (Any (λ b. b ≡ true)) (sym c.deref-5.ensures.value) any))))
    (order_strictly m g.L.Loss.STRICT g.met.L.Loss.laws c.args.ordered.groups.now c.args.ordered.pairs.now c.requires.order.fittable c.requires.order.plain)
    (c.in_ok-second.ensures.greatest s (greatest_at m s v) c.requires.piece high)
    (tie_of g.L.Loss.STRICT c.level_tie-tie.result s (holds c.args.piece.now.places.items) (greatest_at m s v) (marked c.args.piece.now c.number_places.new.positions c.in_ok-second.second.items) c.level_tie-tie.ensures (c.in_ok-second.ensures.tied s (greatest_at m s v) c.requires.piece high))
