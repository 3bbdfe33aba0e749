use Rattle.std.proofs.Common.{◌≡◌, [], length, List, set, ap, sym, subst, ◌∙◌, ◌<◌, arith, Vec, Global, Some}
use Rattle.std.proofs.lemmas.List.{length-map, map-set, get_or-map}
use Rattle.std.proofs.lemmas.Option.{slice_get-get_or}
use Rattle.std.specs.Prelude.{map, slice_get}
use Rattle.ofit_num.specs.declared.row.Row.{Row}
use Rattle.ofit_study.proofs.groups.GroupRows.exchange.Goals as goal

pub returns-clause-put : goal.returns-clause-put
returns-clause-put c =
    let items = λ (v : Vec Row Global). v.items in
    let lists = c.self.inside.lists.items in
    map-set items lists c.args.place c.swap.new.x
    ∙ ap (λ (v : Vec Row Global). set (map items lists) c.args.place v.items) c.swap.ensures.x_after
    ∙ ap (λ (t : List (List Row)). set t c.args.place c.args.rows.now.items) c.self.view_is

pub returns-clause-left : goal.returns-clause-left
returns-clause-left c =
    let items = λ (v : Vec Row Global). v.items in
    let lists = c.self.inside.lists.items in
    let inside : c.args.place < length lists = omega (arith, length-map lists items, ap length c.self.view_is) in
    subst (λ (t : List (List Row)). slice_get t c.args.place ≡ Some c.swap.new.y.items) c.self.view_is
    (slice_get-get_or (map items lists) c.args.place [] (omega (arith, inside, length-map lists items))
    ∙ ap (λ (r : List Row). Some r) (get_or-map items lists c.args.place c.index_mut.result.now [] inside ∙ ap items (sym c.index_mut.ensures.value ∙ sym c.swap.ensures.y_after)))
