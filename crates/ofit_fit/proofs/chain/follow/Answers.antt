use Rattle.std.proofs.Common.{arith, length, subst}
use Rattle.ofit_fit.specs.Links.{IsLinkWithin}
use Rattle.ofit_fit.proofs.Paths.{followed_none, followed_more, followed_end, followed_all}
use Rattle.ofit_fit.proofs.chain.follow.Goals as goal

pub loop-init : goal.loop-init
loop-init c = followed_none c.args.links.now c.args.start c.new-path.result.items c.new-path.ensures.items c.requires.start

pub bounds-links-position : goal.bounds-links-position
bounds-links-position c = subst (IsLinkWithin (length c.args.links.now)) c.in-Some.is c.loop.invariant.within

pub loop-preserved : goal.loop-preserved
loop-preserved c =
    followed_more c.args.links.now c.args.start c.loop.counter c.loop.path.items _ c.loop.next c.in-Some.position c.requires.links c.in-Some.is
    (subst (IsLinkWithin (length c.args.links.now)) c.in-Some.is c.loop.invariant.within) c.in_ok-push.ensures.items c.loop.invariant

pub returns-in_default : goal.returns-in_default
returns-in_default c = λ whole l h. followed_end c.args.links.now c.loop.path.items whole c.loop.next c.in_default.is (c.loop.invariant.rest whole h)

pub returns : goal.returns
returns c = λ whole l h. followed_all c.args.links.now c.loop.path.items whole c.loop.next c.loop.counter c.loop.invariant.count (omega arith) (c.loop.invariant.rest whole h)
