use Rattle.std.proofs.Common.{◌<◌, sym, ap, subst, ◌∙◌, length, map}
use Rattle.std.specs.Prelude.{All}
use Rattle.ofit_cut.specs.Sets.{AreWithin}
use Rattle.ofit_partition.proofs.Uppers.{by_position, pairs_inside, pairs_within, cut_greatest, cut_tied}
use Rattle.ofit_partition.proofs.upper.greatest_upper.Goals as goal

pub turned_pairs-requires : goal.turned_pairs-requires
turned_pairs-requires c = subst (All (λ e. (e.0 < length c.args.positions.now) × (e.1 < length c.args.positions.now))) (sym c.deref.ensures.value)
    (pairs_inside c.args.positions.now c.args.piece.now.places.items c.args.piece.now.pairs.items c.requires.numbered c.requires.inside)

pub lower_cut-requires-clause-pairs_in : goal.lower_cut-requires-clause-pairs_in
lower_cut-requires-clause-pairs_in c = subst (λ ps. AreWithin ps (length c.args.weights.now)) (sym (c.deref-2.ensures.value ∙ c.in_ok-round.ensures ∙ ap (map (by_position c.args.positions.now)) c.deref.ensures.value))
    (subst (AreWithin (map (by_position c.args.positions.now) c.args.piece.now.pairs.items)) (sym c.requires.one_each)
    (pairs_within c.args.positions.now c.args.piece.now.places.items c.args.piece.now.pairs.items c.requires.numbered c.requires.inside))

pub returns-clause-greatest : goal.returns-clause-greatest
returns-clause-greatest c = cut_greatest c.args.tie c.args.piece.now c.args.positions.now c.args.weights.now _ c.lower_cut.result (c.deref-2.ensures.value ∙ c.in_ok-round.ensures ∙ ap (map (by_position c.args.positions.now)) c.deref.ensures.value) c.requires.numbered c.lower_cut.ensures.tied

pub returns-clause-tied : goal.returns-clause-tied
returns-clause-tied c = cut_tied c.args.tie c.args.piece.now c.args.positions.now c.args.weights.now _ c.lower_cut.result (c.deref-2.ensures.value ∙ c.in_ok-round.ensures ∙ ap (map (by_position c.args.positions.now)) c.deref.ensures.value) c.requires.numbered c.lower_cut.ensures.tied
