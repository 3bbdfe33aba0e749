use Rattle.std.proofs.Common.{◌++◌, ◌∷◌, [], ◌+◌, ◌%◌, List, ℕ, arith, ap, ◌∙◌, append_assoc}
use Rattle.ofit_num.proofs.Fixed.{padded_more, below_tenth}
use Rattle.ofit_num.proofs.decimal.append.+append_padded.Goals as goal

pub append_padded-requires : goal.append_padded-requires
append_padded-requires t c = (omega arith, below_tenth c.args.number c.args.count (omega arith) c.requires)

pub returns-clause-ok : goal.returns-clause-ok
returns-clause-ok t c =
    let so_far = c.in_ok-append_padded.ensures.ok in (
      so_far.0 ++ ((48 + c.args.number % 10) ∷ []),
      padded_more so_far.0 c.args.count c.args.number (omega arith) so_far.1,
      c.in_ok-push.ensures.items ∙ ap (λ (r : List ℕ). r ++ ((48 + c.args.number % 10) ∷ [])) so_far.2 ∙ append_assoc c.args.into.now.items so_far.0 ((48 + c.args.number % 10) ∷ []),
    )
