use Rattle.std.proofs.Common.{rules, ◌≡◌, ◌-◌, ◌<◌, get_or, ap, ap₂, sym, subst, ◌∙◌}
use Rattle.std.specs.Prelude.{Some, IfSome}
use Rattle.ofit_num.specs.Fraction.{AtMost}
use Rattle.ofit_chain.proofs.stack.take_above.Goals as goal

pub returns-clause-at_least : goal.returns-clause-at_least
returns-clause-at_least g c =
    let last = c.in_ok-last.last.now in
    let item = c.in_ok-last.ensures.item in
    let long = c.deref.ensures.len in
    let at_least : AtMost c.args.value.now last.value = search rules in
    let popped : c.pop.result ≡ Some last =
    c.pop.ensures.value last (subst (λ n. 0 < n) long item.3.0) ∙ ap₂ (λ blocks n. Some (get_or blocks (n - 1) last)) (sym c.deref.ensures.value) (sym long) ∙ ap Some (sym item.1) in
    subst (λ o. IfSome o (λ block. AtMost c.args.value.now block.value)) (sym popped) at_least
