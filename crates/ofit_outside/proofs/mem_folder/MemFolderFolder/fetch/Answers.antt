use Rattle.std.proofs.Common.{◌≡◌, ◌<◌, ℕ, List, Vec, Global, Option, Some, None, length, IsSomeAnd, refl, ap, sym, subst, ◌∙◌, rules}
use Rattle.std.specs.Option.{option_map}
use Rattle.std.specs.FinMap.{get}
use Rattle.std.specs.BTreeMap.{get_by_text}
use Rattle.ofit_outside.specs.MemFolder.{FolderView}
use Rattle.ofit_outside.proofs.HeldOf.{get-held_of}
use Rattle.ofit_outside.proofs.mem_folder.MemFolderFolder.fetch.Goals as goal

pub returns-in_default-clause-missing : goal.returns-in_default-clause-missing
returns-in_default-clause-missing c = λ _.
    let none : get_by_text c.self.inside.files c.args.name.now ≡ None = search rules in
    ap (λ (v : FolderView). get v.held c.args.name.now) (sym c.self.view_is)
    ∙ get-held_of c.self.inside.files c.args.name.now
    ∙ ap (λ (o : Option (Vec ℕ Global)). option_map (λ v. v.items) o) none

pub returns-then-len-limit-clause-long : goal.returns-then-len-limit-clause-long
returns-then-len-limit-clause-long c = λ _.
    let some : get_by_text c.self.inside.files c.args.name.now ≡ Some c.in-Some.bytes.now = search rules in
    let is = ap (λ (v : FolderView). get v.held c.args.name.now) (sym c.self.view_is)
    ∙ get-held_of c.self.inside.files c.args.name.now
    ∙ ap (λ (o : Option (Vec ℕ Global)). option_map (λ v. v.items) o) some in
    let longer : c.args.limit < length c.in-Some.bytes.now.items = search rules in
    subst (λ (o : Option (List ℕ)). IsSomeAnd o (λ bytes. c.args.limit < length bytes)) (sym is) longer

pub returns-clause-ok : goal.returns-clause-ok
returns-clause-ok c =
    let some : get_by_text c.self.inside.files c.args.name.now ≡ Some c.in-Some.bytes.now = search rules in
    let same : c.in-Some.bytes.now.items ≡ c.in_ok-to_vec.field-0.items = search rules in
    ap (λ (v : FolderView). get v.held c.args.name.now) (sym c.self.view_is)
    ∙ get-held_of c.self.inside.files c.args.name.now
    ∙ ap (λ (o : Option (Vec ℕ Global)). option_map (λ v. v.items) o) some
    ∙ ap (λ (l : List ℕ). Some l) same

pub returns-then-call-clause-failed : goal.returns-then-call-clause-failed
returns-then-call-clause-failed c = rw (← c.self.view_is) ((λ _. c.if-call.ensures.listed.0 refl), (λ _. refl))
