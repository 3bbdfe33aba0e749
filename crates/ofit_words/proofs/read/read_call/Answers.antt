use Rattle.std.proofs.Common.{◌≡◌, ◌++◌, ◌∷◌, ℕ, List, length, drop, map, ap, sym, subst, ◌∙◌, inr}
use Rattle.std.proofs.Math.Seq.{drop-append_seam}
use Rattle.std.proofs.lemmas.List.{map-append, length-map}
use Rattle.std.specs.Prelude.{string_bytes, IsErrOf, ◌⊎◌}
use Rattle.ofit_words.specs.declared.fault.WordFault.TheVariants.{Memory}
use Rattle.ofit_words.specs.Commands.{command_name}
use Rattle.ofit_words.specs.Given.{AreInForce}
use Rattle.ofit_words.specs.Made.{JobMade}
use Rattle.ofit_words.specs.Read.{AreRead}
use Rattle.ofit_words.specs.Words.{IsCall, WordsRead}
use Rattle.ofit_words.proofs.Found.{passed_on, no_level_of_words, made_of_words, fault_of_words, limits_of_made}
use Rattle.ofit_words.proofs.read.read_call.Goals as goal

-- behind so many names stand the settings
behind : {X Y : Type 0} (f : X → Y) (words front back : List X) (settings : List Y) (n : ℕ) → words ≡ front ++ back → length front ≡ n → settings ≡ drop n (map f words) → settings ≡ map f back
behind f words front back settings n e l s =
    s ∙ ap (λ ws. drop n (map f ws)) e ∙ ap (drop n) (map-append f front back) ∙ ap (λ k. drop k (map f front ++ map f back)) (sym (length-map front f ∙ l)) ∙ drop-append_seam (map f front) (map f back)

pub returns-then-not-level_is_good-clause-read : goal.returns-then-not-level_is_good-clause-read
returns-then-not-level_is_good-clause-read g c =
    inr (no_level_of_words _ c.args.command (map string_bytes c.split_at.result.0.now) (map string_bytes c.split_at.result.1.now)
    (ap (λ (t : List (List ℕ)). command_name c.args.command ∷ t) (ap (map string_bytes) c.split_at.ensures.by_index.0 ∙ map-append string_bytes c.split_at.result.0.now c.split_at.result.1.now)) c.if-not-level_is_good.ensures)

pub job_of-requires : goal.job_of-requires
job_of-requires g c =
    let e = behind string_bytes c.args.words.now c.split_at.result.0.now c.split_at.result.1.now g.settings _ c.split_at.ensures.by_index.0 (c.split_at.ensures.front_len ∙ c.names_of-count.ensures) c.requires in (
      c.split_at.ensures.front_len ∙ c.names_of-count.ensures,
      (
        subst (λ ws. AreRead c.in_force-force.result.places c.in_force-force.result.groups ws c.in_ok-settings.settings.items) (sym e) c.in_ok-settings.ensures.read,
        (
          subst (λ ws. AreInForce ws c.in_force-force.result.places c.in_force-force.result.groups) (sym e) c.in_force-force.ensures.force,
          (c.in_force-force.ensures.places, (c.in_force-force.ensures.least, c.in_force-force.ensures.most)),
        ),
      ),
    )

pub returns-clause-read : goal.returns-clause-read
returns-clause-read g c =
    let e = behind string_bytes c.args.words.now c.split_at.result.0.now c.split_at.result.1.now g.settings _ c.split_at.ensures.by_index.0 (c.split_at.ensures.front_len ∙ c.names_of-count.ensures) c.requires in
    let call : IsCall (command_name c.args.command ∷ map string_bytes c.args.words.now) c.args.command (map string_bytes c.split_at.result.0.now) (map string_bytes c.split_at.result.1.now) = record {
      spells = ap (λ (t : List (List ℕ)). command_name c.args.command ∷ t) (ap (map string_bytes) c.split_at.ensures.by_index.0 ∙ map-append string_bytes c.split_at.result.0.now c.split_at.result.1.now);
      as_many = length-map c.split_at.result.0.now string_bytes ∙ c.split_at.ensures.front_len ∙ c.names_of-count.ensures;
      level = c.if-not-level_is_good.ensures;
    } in
    made_of_words c.job_of.result _ c.args.command _ _ _ _ call c.in_force-force.ensures.force c.in_ok-settings.ensures.checked (subst (λ ws. JobMade c.args.command (map string_bytes c.split_at.result.0.now) ws c.job_of.result) e c.job_of.ensures)

pub returns-clause-limits : goal.returns-clause-limits
returns-clause-limits g c = limits_of_made c.job_of.result c.args.command (map string_bytes c.split_at.result.0.now) g.settings c.job_of.ensures

pub returns-in_err-settings-clause-read : goal.returns-in_err-settings-clause-read
returns-in_err-settings-clause-read g c =
    let call : IsCall (command_name c.args.command ∷ map string_bytes c.args.words.now) c.args.command (map string_bytes c.split_at.result.0.now) (map string_bytes c.split_at.result.1.now) = record {
      spells = ap (λ (t : List (List ℕ)). command_name c.args.command ∷ t) (ap (map string_bytes) c.split_at.ensures.by_index.0 ∙ map-append string_bytes c.split_at.result.0.now c.split_at.result.1.now);
      as_many = length-map c.split_at.result.0.now string_bytes ∙ c.split_at.ensures.front_len ∙ c.names_of-count.ensures;
      level = c.if-not-level_is_good.ensures;
    } in
    passed_on c.from_residual.result c.in_err-settings.field-0.0 (λ r. IsErrOf r Memory ⊎ WordsRead (command_name c.args.command ∷ map string_bytes c.args.words.now) r) c.from_residual.ensures.0 c.from_residual.ensures.1
    (fault_of_words c.in_err-settings.field-0.0 _ c.args.command _ _ _ _ call c.in_force-force.ensures.force c.in_err-settings.ensures.checked)
