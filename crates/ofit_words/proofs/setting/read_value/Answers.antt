use Rattle.std.proofs.Common.{sym, subst}
use Rattle.std.specs.Prelude.{MatchOption}
use Rattle.ofit_words.specs.declared.key.Key.{Key}
use Rattle.ofit_words.specs.Values.{IsGood}
use Rattle.ofit_words.specs.Read.{Reads}
use Rattle.ofit_words.proofs.Lookups.{number_reads}
use Rattle.ofit_words.proofs.setting.read_value.Goals as goal

pub returns-in-Places : goal.returns-in-Places
returns-in-Places c =
    let P : Key → Type 0 = λ k. MatchOption c.number_read.result (IsGood c.args.force.places c.args.force.groups k c.args.text.now → ⊥) (λ v. Reads c.args.force.places c.args.force.groups k c.args.text.now v) in
    subst P (sym c.in-Places.is) (number_reads 0 6 c.args.text.now c.number_read.result c.number_read.ensures)

pub returns-in-Seed : goal.returns-in-Seed
returns-in-Seed c =
    let P : Key → Type 0 = λ k. MatchOption c.number_read-in-Seed.result (IsGood c.args.force.places c.args.force.groups k c.args.text.now → ⊥) (λ v. Reads c.args.force.places c.args.force.groups k c.args.text.now v) in
    subst P (sym c.in-Seed.is) (number_reads 0 4294967295 c.args.text.now c.number_read-in-Seed.result c.number_read-in-Seed.ensures)

pub returns-in-Groups : goal.returns-in-Groups
returns-in-Groups c =
    let P : Key → Type 0 = λ k. MatchOption c.number_read-in-Groups.result (IsGood c.args.force.places c.args.force.groups k c.args.text.now → ⊥) (λ v. Reads c.args.force.places c.args.force.groups k c.args.text.now v) in
    subst P (sym c.in-Groups.is) (number_reads 1 2000 c.args.text.now c.number_read-in-Groups.result c.number_read-in-Groups.ensures)

pub returns-in-Rows : goal.returns-in-Rows
returns-in-Rows c =
    let P : Key → Type 0 = λ k. MatchOption c.number_read-in-Rows.result (IsGood c.args.force.places c.args.force.groups k c.args.text.now → ⊥) (λ v. Reads c.args.force.places c.args.force.groups k c.args.text.now v) in
    subst P (sym c.in-Rows.is) (number_reads c.args.force.groups 10000 c.args.text.now c.number_read-in-Rows.result c.number_read-in-Rows.ensures)
