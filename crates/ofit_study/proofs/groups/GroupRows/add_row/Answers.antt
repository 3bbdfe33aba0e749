use Rattle.std.proofs.Common.{◌≡◌, [], ◌∷◌, ◌++◌, length, List, set, get_or, ap, sym, ◌∙◌, ◌<◌, arith, Vec, Global}
use Rattle.std.proofs.lemmas.List.{length-map, map-set, get_or-map}
use Rattle.std.proofs.Math.Seq.{map-set_same}
use Rattle.std.specs.Prelude.{map, Result, Ok, Err, OnErr}
use Rattle.ofit_num.specs.declared.row.Row.{Row}
use Rattle.ofit_study.proofs.groups.GroupRows.add_row.Goals as goal

on_err : {T E P : Type 0} (r : Result T E) → P → OnErr r P
on_err (Ok t) p = tt
on_err (Err e) p = p

pub returns-in_err-push-clause-err : goal.returns-in_err-push-clause-err
returns-in_err-push-clause-err c =
    let items = λ (v : Vec Row Global). v.items in
    let lists = c.self.inside.lists.items in
    let inside : c.args.place < length lists = omega (arith, length-map lists items, ap length c.self.view_is) in
    let same : map items (set lists c.args.place c.push.new.self) ≡ map items lists =
    map-set_same items lists c.args.place c.push.new.self c.index_mut-rows.result.now (c.in_err-push.ensures.items ∙ ap items c.index_mut-rows.ensures.value) in
    on_err c.from_residual.result (same ∙ c.self.view_is)

pub returns-clause-ok : goal.returns-clause-ok
returns-clause-ok c =
    let items = λ (v : Vec Row Global). v.items in
    let lists = c.self.inside.lists.items in
    let inside : c.args.place < length lists = omega (arith, length-map lists items, ap length c.self.view_is) in
    let read : get_or (map items lists) c.args.place [] ≡ c.index_mut-rows.result.now.items =
    get_or-map items lists c.args.place c.index_mut-rows.result.now [] inside ∙ ap items (sym c.index_mut-rows.ensures.value) in
    map-set items lists c.args.place c.push.new.self
    ∙ ap (set (map items lists) c.args.place) (c.in_ok-push.ensures.items ∙ ap (λ (r : List Row). r ++ c.args.row ∷ []) (sym read))
    ∙ ap (λ (t : List (List Row)). set t c.args.place (get_or t c.args.place [] ++ c.args.row ∷ [])) c.self.view_is
