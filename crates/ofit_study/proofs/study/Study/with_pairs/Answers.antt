use Rattle.std.proofs.Common.{◌<◌, ◌∙◌, ℕ, List, length, ap, sym, subst, All, AllPairs, map}
use Rattle.ofit_study.specs.Study.{Study, ComesBefore, names_of}
use Rattle.ofit_study.specs.Kept.{named}
use Rattle.ofit_study.proofs.PairLists.{inside_kept}
use Rattle.ofit_study.proofs.Pairing.{names-distinct, given_pairs}
use Rattle.ofit_study.proofs.study.Study.with_pairs.Goals as goal

pub ordered_pairs-requires-clause-distinct : goal.ordered_pairs-requires-clause-distinct
ordered_pairs-requires-clause-distinct c =
    let i = c.self.inside in
    names-distinct i.settings i.names i.entries.items i.groups i.pairs i.weight c.self.invariant

pub set_pairs-requires-clause-within : goal.set_pairs-requires-clause-within
set_pairs-requires-clause-within c =
    let ordered = c.in_ok-ordered.ordered.items in
    subst (λ (t : Study). All (λ e. (e.0 < length (names_of t)) × (e.1 < length (names_of t))) ordered) (sym c.in_ok-study.ensures)
    (inside_kept (names_of c.args.self.now) c.args.pairs.now ordered c.requires.places (λ e h. (c.in_ok-ordered.ensures.same e).1 h))

pub returns : goal.returns
returns c =
    let s = c.args.self.now in
    let ordered = c.in_ok-ordered.ordered.items in
    let names = c.self.invariant.names_are ∙ ap names_of c.self.view_is in
    given_pairs s ordered (inside_kept (names_of s) c.args.pairs.now ordered c.requires.places (λ e h. (c.in_ok-ordered.ensures.same e).1 h)) c.args.pairs.now c.set_pairs.new.self
    (subst (λ (t : List (List ℕ)). AllPairs ComesBefore (map (named t) ordered)) names c.in_ok-ordered.ensures.in_order) c.in_ok-ordered.ensures.same
    (c.in_ok-set_pairs.ensures ∙ ap (λ (t : Study). record t { pairs = map (named (names_of t)) ordered }) c.in_ok-study.ensures)
