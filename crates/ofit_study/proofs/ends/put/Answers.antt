use Rattle.std.proofs.Common.{◌≡◌, ◌∷◌, ◌++◌, [], ℕ, List, set, get_or, length, sym, ap, ◌∙◌, ◌<◌, arith, Vec, Global}
use Rattle.std.proofs.lemmas.List.{map-set, get_or-map}
use Rattle.ofit_study.specs.Ends.{lists_of}
use Rattle.ofit_study.proofs.ends.put.Goals as goal

pub returns : goal.returns
returns c =
    let items = λ (v : Vec ℕ Global). v.items in
    let rows = c.args.lists.now.items in
    let inside : c.args.place < length rows = omega arith in
    let read : get_or (lists_of rows) c.args.place [] ≡ c.index_mut.result.now.items =
    get_or-map items rows c.args.place c.index_mut.result.now [] inside ∙ ap items (sym c.index_mut.ensures.value) in
    map-set items rows c.args.place c.push.new.self
    ∙ ap (set (lists_of rows) c.args.place) (c.in_ok-push.ensures.items ∙ ap (λ (r : List ℕ). r ++ c.args.index ∷ []) (sym read))
