use Rattle.std.proofs.Common.{◌≡◌, ℕ, List, ap, ◌∙◌, rules, string_bytes}
use Rattle.std.specs.FinMap.{insert}
use Rattle.ofit_outside.specs.MemFolder.{held_of}
use Rattle.ofit_outside.proofs.HeldOf.{held_of-insert}
use Rattle.ofit_outside.proofs.mem_folder.MemFolder.hold.Goals as goal

pub returns-clause-ok : goal.returns-clause-ok
returns-clause-ok c =
    let name : string_bytes c.in_ok-name.name ≡ c.args.name.now = search rules in
    let bytes : c.in_ok-bytes.bytes.items ≡ c.args.bytes.now = search rules in
    let held = held_of-insert c.self.inside.files c.insert.new.self c.in_ok-name.name c.in_ok-bytes.bytes c.in_ok-insert.ensures.updates
    ∙ ap (λ (k : List ℕ). insert (held_of c.self.inside.files.entries) k c.in_ok-bytes.bytes.items) name
    ∙ ap (λ (b : List ℕ). insert (held_of c.self.inside.files.entries) c.args.name.now b) bytes in
    rw (← c.self.view_is) (λ i. record {
      held = held i;
      fails = c.self.inside.schedule.fails.items;
      fetches = c.self.inside.schedule.calls;
      faults = c.self.inside.faults;
    })
