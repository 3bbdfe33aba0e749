use Rattle.std.proofs.Common.{◌≡◌, ◌∷◌, ◌++◌, [], ℕ, List, set, length, sym, ap, ◌∙◌, ◌<◌, arith, Vec, Global}
use Rattle.std.proofs.lemmas.List.{map-set, get_or-map}
use Rattle.ofit_order.specs.Rows.{rows_of, row}
use Rattle.ofit_order.proofs.neighbours.put.Goals as goal

pub returns : goal.returns
returns c =
    let items = λ (v : Vec ℕ Global). v.items in
    let rows = c.args.rows.now.items in
    let inside : c.args.at < length rows = omega arith in
    let read : row (rows_of rows) c.args.at ≡ c.index_mut.result.now.items =
    get_or-map items rows c.args.at c.index_mut.result.now [] inside ∙ ap items (sym c.index_mut.ensures.value) in
    map-set items rows c.args.at c.push.new.self
    ∙ ap (set (rows_of rows) c.args.at) (c.in_ok-push.ensures.items ∙ ap (λ (r : List ℕ). r ++ c.args.place ∷ []) (sym read))
