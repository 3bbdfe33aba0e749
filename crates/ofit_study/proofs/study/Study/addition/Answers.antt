use Rattle.std.proofs.Common.{◌≡◌, ◌≢◌, ◌+◌, ◌<◌, ◌≤◌, ◌^◌, ◌∙◌, ℕ, ℤ, List, [], ◌∷◌, refl, sym, ap, subst, arith, rules, FitsSigned, w64, to_z, of_z, take, drop, ◌++◌, true≢false}
use Rattle.std.proofs.lemmas.Int.{to_z-of_z}
use Rattle.std.proofs.lemmas.List.Elements.{All-contains, All-weaker}
use Rattle.std.specs.Prelude.{unsigned_abs}
use Rattle.ofit_study.specs.Study.{Observation, names_of}
use Rattle.ofit_study.specs.Added.{observation}
use Rattle.ofit_study.specs.Change.{HasBefore}
use Rattle.ofit_study.specs.Kept.{name_at}
use Rattle.ofit_study.proofs.Earlier.{before_names, one_free}
use Rattle.ofit_study.proofs.Edits.{gained, gap_valid, new_row}
use Rattle.ofit_study.proofs.Gaps.{above_row, below_row, gap_free, gap_inside}
use Rattle.ofit_study.proofs.Pushing.{name_at-get}
use Rattle.ofit_study.proofs.Splicing.{row_name}
use Rattle.ofit_study.proofs.study.Study.addition.Goals as goal
use Rattle.ofit_study.proofs.study.Study.addition.Goals.{in_default-via-in-Some+else-stands_before, in_default-via-in_default}

pub more_row-requires-clause-below : goal.more_row-requires-clause-below
more_row-requires-clause-below c =
    let s = c.args.self.now in
    let place = c.first_gap-index.result in
    let r : Observation = observation c.args.name.now (record { number = place + 1; value = c.args.value; weight = c.args.weight }) in
    below_row s c.keeps_limits.ensures.valid place c.first_gap-index.ensures r refl

pub more_row-requires-clause-above : goal.more_row-requires-clause-above
more_row-requires-clause-above c =
    let s = c.args.self.now in
    let place = c.first_gap-index.result in
    let r : Observation = observation c.args.name.now (record { number = place + 1; value = c.args.value; weight = c.args.weight }) in
    above_row s c.keeps_limits.ensures.valid place c.first_gap-index.ensures r refl

pub more_row-requires-clause-before : goal.more_row-requires-clause-before
more_row-requires-clause-before c =
    let s = c.args.self.now in
    let place = c.first_gap-index.result in
    let r : Observation = observation c.args.name.now (record { number = place + 1; value = c.args.value; weight = c.args.weight }) in
    before_names s place (place + 1)
    (All-weaker (λ q. place + 1 < q.number) (λ q. place + 1 ≤ q.number) (λ q l. omega arith) (drop place s.rows) (above_row s c.keeps_limits.ensures.valid place c.first_gap-index.ensures r refl))
    (name_at (names_of s) c.in-Some.place) (c.stands_before.ensures.0 c.if-stands_before.true)

pub more_row-requires-clause-valid : goal.more_row-requires-clause-valid
more_row-requires-clause-valid c =
    let s = c.args.self.now in
    let v = c.keeps_limits.ensures.valid in
    let place = c.first_gap-index.result in
    let fits : FitsSigned w64 c.args.value = search rules in
    let value_is : to_z w64 (of_z w64 c.args.value) ≡ c.args.value = simp to_z-of_z refl in
    let r : Observation = observation c.args.name.now (record { number = place + 1; value = to_z w64 (of_z w64 c.args.value); weight = c.args.weight }) in
    rw (name_at-get (names_of s) c.in-Some.place c.args.name.now c.in-Some.ensures)
    (gap_valid s v place c.first_gap-index.ensures r refl
    (new_row s place r (gap_inside s v place c.first_gap-index.ensures) c.requires.accepted.few refl c.requires.name (subst (λ (z : ℤ). unsigned_abs z ≤ 10 ^ 9) (sym value_is) c.requires.value) c.requires.weight.0)
    c.requires.accepted)

pub returns-in_ok-more_row-in-Some : goal.returns-in_ok-more_row-in-Some
returns-in_ok-more_row-in-Some c =
    let s = c.args.self.now in
    let place = c.first_gap-index.result in
    let fits : FitsSigned w64 c.args.value = search rules in
    let value_is : to_z w64 (of_z w64 c.args.value) ≡ c.args.value = simp to_z-of_z refl in
    let known : name_at (names_of s) c.in-Some.place ≡ c.args.name.now = name_at-get (names_of s) c.in-Some.place c.args.name.now c.in-Some.ensures in
    let r : Observation = observation c.args.name.now (record { number = place + 1; value = to_z w64 (of_z w64 c.args.value); weight = c.args.weight }) in
    record {
      of = c.in_ok-more_row-in-Some.ensures.change;
      after = gained s c.keeps_limits.ensures.valid place c.first_gap-index.ensures r refl _ _ c.in_ok-more_row-in-Some.ensures.after
          (ap (λ (n : List ℕ). take place s.rows ++ observation n (record { number = place + 1; value = to_z w64 (of_z w64 c.args.value); weight = c.args.weight }) ∷ drop place s.rows) known) c.args.value value_is;
      touches = ap (λ (n : List ℕ). n ∷ []) (sym known ∙ ap (name_at (names_of s)) (sym c.in_ok-more_row-in-Some.ensures.group));
    }

pub returns-in_default : goal.returns-in_default
returns-in_default c =
    let s = c.args.self.now in
    let place = c.first_gap-index.result in
    λ h.
    let number_is : h.0 ≡ place + 1 = one_free s.rows h.0 (place + 1) h.1 (gap_free s c.keeps_limits.ensures.valid place c.first_gap-index.ensures) in
    elim c.in_default.branch [
      | in_default-via-in-Some+else-stands_before w ↦
          true≢false (sym (w.stands_before.ensures.1
          (subst (λ (n : List ℕ). HasBefore s n (place + 1)) (sym (name_at-get (names_of s) w.in-Some.place c.args.name.now w.in-Some.ensures)) (subst (HasBefore s c.args.name.now) number_is h.2))) ∙ w.if-stands_before.false)
      | in_default-via-in_default w ↦ All-contains (λ known. known ≢ c.args.name.now) (names_of s) h.2.row.group w.in_default.ensures (row_name s.rows h.2.row h.2.stands) h.2.of
    ]
