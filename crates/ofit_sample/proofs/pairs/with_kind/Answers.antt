use Rattle.std.proofs.Common.{◌≡◌, ◌<◌, ◌-◌, ◌∙◌, ℕ, List, Ok, length, sym, ap, subst, arith}
use Rattle.std.specs.Prelude.{All}
use Rattle.std.proofs.lemmas.Result.{IfOk-weaker}
use Rattle.ofit_study.specs.Study.{names_of}
use Rattle.ofit_table.specs.PatternRead.{PatternRead}
use Rattle.ofit_sample.specs.Made.{all_drawn, later_draws, IsMade}
use Rattle.ofit_sample.specs.Making.{first_names}
use Rattle.ofit_sample.proofs.Drawn.{drawn-few, drawn-inside}
use Rattle.ofit_sample.proofs.Making.{names_are}
use Rattle.ofit_sample.proofs.Names.{names-length}
use Rattle.ofit_sample.proofs.Patterns.{group_there, made_by_pattern}
use Rattle.ofit_sample.proofs.pairs.with_kind.Goals as goal

pub with_pattern-requires : goal.with_pattern-requires
with_pattern-requires c =
    let job = c.args.job.now in
    let names : names_of c.args.study.now ≡ first_names job.groups = names_are job _ job.groups _ c.args.study.now c.args.generator.now.number c.requires.underway in
    group_there job.kind job.groups c.in-Some.pattern (names_of c.args.study.now) names c.requires.job.0 (sym c.in-Some.is ∙ c.in_ok-pattern.ensures)

pub with_pairs-requires-clause-places : goal.with_pairs-requires-clause-places
with_pairs-requires-clause-places c =
    let job = c.args.job.now in
    let draws = later_draws job.groups (job.rows - job.groups) in
    let names : names_of c.args.study.now ≡ first_names job.groups = names_are job _ job.groups _ c.args.study.now c.args.generator.now.number c.requires.underway in
    let count : length (names_of c.args.study.now) ≡ job.groups = ap length names ∙ names-length job.groups in
    let are : c.as_slice.result.now ≡ all_drawn job.seed draws job.groups = c.as_slice.ensures.value ∙ c.in_ok-pairs-in-None.ensures job.seed draws c.requires.underway.drawn in
    subst (λ (pairs : List (ℕ × ℕ)). All (λ e. (e.0 < length (names_of c.args.study.now)) × (e.1 < length (names_of c.args.study.now))) pairs) (sym are)
    (subst (λ (n : ℕ). All (λ e. (e.0 < n) × (e.1 < n)) (all_drawn job.seed draws job.groups)) (sym count) (drawn-inside job.seed draws job.groups c.requires.job.0))

pub with_pairs-requires-clause-few : goal.with_pairs-requires-clause-few
with_pairs-requires-clause-few c =
    let job = c.args.job.now in
    let draws = later_draws job.groups (job.rows - job.groups) in
    let are : c.as_slice.result.now ≡ all_drawn job.seed draws job.groups = c.as_slice.ensures.value ∙ c.in_ok-pairs-in-None.ensures job.seed draws c.requires.underway.drawn in
    omega (arith, ap length are, drawn-few job.seed draws job.groups c.requires.job.1)

pub returns-in-Some : goal.returns-in-Some
returns-in-Some c =
    let job = c.args.job.now in
    let s = c.args.study.now in
    let names : names_of s ≡ first_names job.groups = names_are job _ job.groups _ s c.args.generator.now.number c.requires.underway in
    IfOk-weaker c.with_pattern.result (λ after. PatternRead c.in-Some.pattern s (Ok after)) (IsMade job)
    (λ after h. made_by_pattern job s after c.in-Some.pattern names c.requires.job.0 c.requires.underway.study (sym c.in-Some.is ∙ c.in_ok-pattern.ensures) h) c.with_pattern.ensures
