use Rattle.std.proofs.Common.{◌++◌, ◌∷◌, ℕ, List, Some, None, ap, ◌∙◌, arith}
use Rattle.std.proofs.lemmas.Str.Pattern.{split_parts, split_after}
use Rattle.ofit_words.specs.Commands.{key_name}
use Rattle.ofit_words.proofs.Settled.{name_free}
use Rattle.ofit_words.proofs.key.setting_of.Goals as goal

pub returns-in-Some-key_of-clause-yes : goal.returns-in-Some-key_of-clause-yes
returns-in-Some-key_of-clause-yes c =
    let parts = split_parts 61 c.args.word.now (Some (c.in-Some.name, c.in-Some.value)) c.in-Some.ensures.cases (omega arith) in
    parts.0 ∙ ap (λ (t : List ℕ). t ++ 61 ∷ c.in-Some.value.now) c.in-Some-key_of.ensures.yes

pub returns-in-None-key_of-clause-no : goal.returns-in-None-key_of-clause-no
returns-in-None-key_of-clause-no c key value s =
    let parts = split_after 61 c.args.word.now (key_name key) value (Some (c.in-Some.name, c.in-Some.value)) c.in-Some.ensures.cases (omega arith) s (name_free key) in
    c.in-None-key_of.ensures.no key parts.0

pub returns-in-None-clause-no : goal.returns-in-None-clause-no
returns-in-None-clause-no c key value s = split_after 61 c.args.word.now (key_name key) value None c.in-None.ensures.cases (omega arith) s (name_free key)
