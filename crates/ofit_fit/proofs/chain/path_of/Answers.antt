use Rattle.std.proofs.Common.{ℕ, ◌≡◌, arith, List, subst, sym, ap, length}
use Rattle.std.specs.Prelude.{Option, Some, Vec, ◌≤◌}
use Rattle.std.specs.Global.{Global}
use Rattle.std.proofs.lemmas.Result.{IfOk-weaker}
use Rattle.ofit_order.specs.Connection.{LeadsUp}
use Rattle.ofit_order.specs.Shape.{LeadsDown}
use Rattle.ofit_fit.specs.Links.{AreLinks, IsPathFrom}
use Rattle.ofit_fit.proofs.Closed.{distinct_from_increasing}
use Rattle.ofit_fit.proofs.ChainPaths.{some_free, links_within, followed_path}
use Rattle.ofit_fit.proofs.chain.path_of.Goals as goal

pub end_of_links-lowest-requires-clause-few : goal.end_of_links-lowest-requires-clause-few
end_of_links-lowest-requires-clause-few c = omega (arith, ap (λ (xs : List (Option ℕ)). length xs) c.as_slice.ensures.value, c.in_ok-downs.ensures.count, c.requires.whole.few)

pub end_of_links-lowest-requires-clause-some : goal.end_of_links-lowest-requires-clause-some
end_of_links-lowest-requires-clause-some c =
    some_free c.args.pairs.now c.args.members.now c.requires.chain.0 (distinct_from_increasing c.args.members.now c.requires.whole.rising) c.requires.chain.1 c.as_slice.result.now
    (subst (λ (xs : List (Option ℕ)). AreLinks (LeadsDown c.args.pairs.now) c.args.members.now xs) (sym c.as_slice.ensures.value) c.in_ok-downs.ensures) c.requires.some

pub follow-requires-clause-start : goal.follow-requires-clause-start
follow-requires-clause-start c =
    omega (arith, c.end_of_links-lowest.ensures.inside, ap (λ (xs : List (Option ℕ)). length xs) c.as_slice.ensures.value, ap (λ (xs : List (Option ℕ)). length xs) c.as_slice-2.ensures.value, c.in_ok-downs.ensures.count, c.in_ok-ups.ensures.count)

pub follow-requires-clause-links : goal.follow-requires-clause-links
follow-requires-clause-links c =
    links_within (LeadsUp c.args.pairs.now) c.args.members.now c.as_slice-2.result.now
    (subst (λ (xs : List (Option ℕ)). AreLinks (LeadsUp c.args.pairs.now) c.args.members.now xs) (sym c.as_slice-2.ensures.value) c.in_ok-ups.ensures)

pub returns : goal.returns
returns c = IfOk-weaker c.follow.result _ _
    (λ (path : Vec ℕ Global) (follows : (whole : List ℕ) → length whole ≤ length c.as_slice-2.result.now → IsPathFrom c.as_slice-2.result.now (Some c.end_of_links-lowest.result) whole → path.items ≡ whole) list chain.
    followed_path c.args.pairs.now c.args.members.now list path.items (distinct_from_increasing c.args.members.now c.requires.whole.rising) chain c.as_slice-2.result.now c.as_slice.result.now
    (subst (λ (xs : List (Option ℕ)). AreLinks (LeadsUp c.args.pairs.now) c.args.members.now xs) (sym c.as_slice-2.ensures.value) c.in_ok-ups.ensures)
    (subst (λ (xs : List (Option ℕ)). AreLinks (LeadsDown c.args.pairs.now) c.args.members.now xs) (sym c.as_slice.ensures.value) c.in_ok-downs.ensures)
    c.requires.some c.end_of_links-lowest.result c.end_of_links-lowest.ensures.inside c.end_of_links-lowest.ensures.none follows) c.follow.ensures
