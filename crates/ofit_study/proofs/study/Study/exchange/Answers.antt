use Rattle.std.proofs.Common.{ap, ap₂, sym, subst, ◌∙◌}
use Rattle.ofit_study.specs.Change.{Change, IsChangeOf, changed}
use Rattle.ofit_study.specs.Kept.{made_of}
use Rattle.ofit_study.specs.Study.{Study}
use Rattle.ofit_study.specs.Told.{told}
use Rattle.ofit_study.proofs.Exchanging.{change_inside, changed_back, kept-changed, left, left_change, made-changed}
use Rattle.ofit_study.proofs.study.Study.exchange.Goals as goal

pub exchange-requires : goal.exchange-requires
exchange-requires c =
    let i = c.self.inside in
    let x = c.change.inside in
    let ch : Change = record { place = x.place; entries = told x.entries; rows = x.rows.items; weight = x.weight } in
    let h : IsChangeOf (made_of i.settings i.names i.entries.items i.pairs) ch = subst (λ (t : Study). IsChangeOf t ch) (sym c.self.view_is) (subst (IsChangeOf c.args.self.now) (sym c.change.view_is) c.requires) in
    change_inside i.settings i.names i.entries.items i.groups i.pairs i.weight c.self.invariant ch h

pub invariant_of-self : goal.invariant_of-self
invariant_of-self c =
    let i = c.self.inside in
    let x = c.change.inside in
    let ch : Change = record { place = x.place; entries = told x.entries; rows = x.rows.items; weight = x.weight } in
    let h : IsChangeOf (made_of i.settings i.names i.entries.items i.pairs) ch = subst (λ (t : Study). IsChangeOf t ch) (sym c.self.view_is) (subst (IsChangeOf c.args.self.now) (sym c.change.view_is) c.requires) in
    rw (c.exchange.ensures.put, c.exchange-2.ensures.put, c.swap.ensures.x_after)
    (kept-changed i.settings i.names i.entries.items i.groups i.pairs i.weight c.self.invariant ch h)

pub returns-clause-put : goal.returns-clause-put
returns-clause-put c =
    let i = c.self.inside in
    let x = c.change.inside in
    let ch : Change = record { place = x.place; entries = told x.entries; rows = x.rows.items; weight = x.weight } in
    let h : IsChangeOf (made_of i.settings i.names i.entries.items i.pairs) ch = subst (λ (t : Study). IsChangeOf t ch) (sym c.self.view_is) (subst (IsChangeOf c.args.self.now) (sym c.change.view_is) c.requires) in
    rw (c.exchange.ensures.put)
    (made-changed i.settings i.names i.entries.items i.groups i.pairs i.weight c.self.invariant ch h ∙ ap₂ (λ (s : Study) (t : Change). changed s t) c.self.view_is c.change.view_is)

pub returns-clause-left : goal.returns-clause-left
returns-clause-left c =
    let i = c.self.inside in
    let x = c.change.inside in
    let ch : Change = record { place = x.place; entries = told x.entries; rows = x.rows.items; weight = x.weight } in
    let h : IsChangeOf (made_of i.settings i.names i.entries.items i.pairs) ch = subst (λ (t : Study). IsChangeOf t ch) (sym c.self.view_is) (subst (IsChangeOf c.args.self.now) (sym c.change.view_is) c.requires) in
    rw (c.exchange.ensures.put, c.exchange.ensures.left, c.swap.ensures.y_after, made-changed i.settings i.names i.entries.items i.groups i.pairs i.weight c.self.invariant ch h)
    (left_change i.settings i.names i.entries.items i.groups i.pairs i.weight c.self.invariant ch h c.exchange-2.new.rows.items c.exchange-2.ensures.left)

pub returns-clause-back : goal.returns-clause-back
returns-clause-back c =
    let i = c.self.inside in
    let x = c.change.inside in
    let ch : Change = record { place = x.place; entries = told x.entries; rows = x.rows.items; weight = x.weight } in
    let h : IsChangeOf (made_of i.settings i.names i.entries.items i.pairs) ch = subst (λ (t : Study). IsChangeOf t ch) (sym c.self.view_is) (subst (IsChangeOf c.args.self.now) (sym c.change.view_is) c.requires) in
    rw (c.exchange.ensures.put, c.exchange.ensures.left)
    (ap (λ (t : Study). changed t (left i.settings i.names i.entries.items i.groups i.pairs i.weight c.self.invariant ch h c.exchange-2.new.rows.items)) (made-changed i.settings i.names i.entries.items i.groups i.pairs i.weight c.self.invariant ch h)
    ∙ changed_back i.settings i.names i.entries.items i.groups i.pairs i.weight c.self.invariant ch h c.exchange-2.new.rows.items
    ∙ c.self.view_is)
