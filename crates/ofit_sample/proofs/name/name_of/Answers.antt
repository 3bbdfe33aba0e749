use Rattle.std.proofs.Common.{◌∙◌, sym, subst, arith}
use Rattle.ofit_study.specs.Name.{IsName}
use Rattle.ofit_sample.proofs.Names.{name_is}
use Rattle.ofit_sample.proofs.name.name_of.Goals as goal

pub unreachable-requires : goal.unreachable-requires
unreachable-requires c =
    let text : IsName c.as_slice.result.now = subst IsName (sym (c.as_slice.ensures.value ∙ c.in_ok-spell_name.ensures)) (name_is c.args.place (omega arith)) in
    let denied = rw c.in-None.is at c.in_ok-name.ensures.made in
    denied text
