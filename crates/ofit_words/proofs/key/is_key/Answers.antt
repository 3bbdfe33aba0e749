use Rattle.std.proofs.Common.{rules, sym, ◌∙◌}
use denote.Enum.Bare.{same_true, same_false}
use Rattle.ofit_words.specs.contracts.key.Key.{the_type}
use Rattle.ofit_words.proofs.key.is_key.Goals as goal

pub returns-clause-yes : goal.returns-clause-yes
returns-clause-yes c is = same_true the_type (search rules) _ _ (sym c.eq.ensures ∙ is)

pub returns-clause-no : goal.returns-clause-no
returns-clause-no c is = same_false the_type _ _ (sym c.eq.ensures ∙ is)
