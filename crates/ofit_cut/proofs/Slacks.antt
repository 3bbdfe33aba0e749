-- The lists of a balance's net, one node after another.
use Rattle.std.proofs.Common.{◌≡◌, ℕ, ◌<◌, ◌+◌, ap, ap₂, sym, ◌∙◌, subst, arith, inl, inr, List, [], ◌∷◌, ◌++◌, append_assoc, length, add-one}
use Rattle.std.proofs.lemmas.Bool.{cases_order}
use Rattle.std.proofs.lemmas.List.{get_or_append_left, get_or-append-add}
use Rattle.std.specs.Prelude.{ℤ, pos}
use Rattle.ofit_flow.specs.declared.edge.Edge.{Edge}
use Rattle.ofit_cut.specs.declared.span.Span.{Span}
use Rattle.ofit_cut.specs.declared.edges.Ends.{Ends}
use Rattle.ofit_cut.specs.Sets.{weight_at}
use Rattle.ofit_cut.specs.Span.{span_at}
use Rattle.ofit_cut.specs.Edges.{weight_edges, gain, loss}
use Rattle.ofit_cut.specs.Slack.{slack_edges, IsBase}
use Rattle.ofit_cut.proofs.Capacity.{fall_at, rise_at}

two_more : (start es : List Edge) (a b : Edge) → ((start ++ es) ++ a ∷ []) ++ b ∷ [] ≡ start ++ (es ++ a ∷ b ∷ [])
two_more start es a b = append_assoc (start ++ es) (a ∷ []) (b ∷ []) ∙ append_assoc start es (a ∷ b ∷ [])

-- the two edges of one more node
pub slack_more : (hub : ℕ) (spans : List Span) (bases : List ℤ) (n : ℕ) (start es fs gs : List Edge) (up down : ℤ) → es ≡ start ++ slack_edges hub spans bases n
    → fs ≡ es ++ record { from = hub; to = n; cap = up } ∷ [] → gs ≡ fs ++ record { from = n; to = hub; cap = down } ∷ [] → up ≡ rise_at spans bases n → down ≡ fall_at spans bases n
    → gs ≡ start ++ slack_edges hub spans bases (n + 1)
slack_more hub spans bases n start es fs gs up down done first second rises falls =
    second
    ∙ ap (λ (xs : List Edge). xs ++ record { from = n; to = hub; cap = down } ∷ []) (first ∙ ap (λ (xs : List Edge). xs ++ record { from = hub; to = n; cap = up } ∷ []) done)
    ∙ two_more start (slack_edges hub spans bases n) (record { from = hub; to = n; cap = up }) (record { from = n; to = hub; cap = down })
    ∙ ap (λ (z : ℤ). start ++ (slack_edges hub spans bases n ++ record { from = hub; to = n; cap = z } ∷ record { from = n; to = hub; cap = down } ∷ [])) rises
    ∙ ap (λ (z : ℤ). start ++ (slack_edges hub spans bases n ++ record { from = hub; to = n; cap = rise_at spans bases n } ∷ record { from = n; to = hub; cap = z } ∷ [])) falls
    ∙ ap (λ (k : ℕ). start ++ slack_edges hub spans bases k) (sym (add-one n))

-- the two edges of one more weight
pub weight_more : (ends : Ends) (weight : ℕ → ℤ) (n : ℕ) (start es fs gs : List Edge) (up down : ℤ) → es ≡ start ++ weight_edges ends weight n
    → fs ≡ es ++ record { from = ends.source; to = n; cap = up } ∷ [] → gs ≡ fs ++ record { from = n; to = ends.sink; cap = down } ∷ [] → up ≡ gain (weight n) → down ≡ loss (weight n)
    → gs ≡ start ++ weight_edges ends weight (n + 1)
weight_more ends weight n start es fs gs up down done first second gains loses =
    second
    ∙ ap (λ (xs : List Edge). xs ++ record { from = n; to = ends.sink; cap = down } ∷ []) (first ∙ ap (λ (xs : List Edge). xs ++ record { from = ends.source; to = n; cap = up } ∷ []) done)
    ∙ two_more start (weight_edges ends weight n) (record { from = ends.source; to = n; cap = up }) (record { from = n; to = ends.sink; cap = down })
    ∙ ap₂ (λ (y z : ℤ). start ++ (weight_edges ends weight n ++ record { from = ends.source; to = n; cap = y } ∷ record { from = n; to = ends.sink; cap = z } ∷ [])) gains loses
    ∙ ap (λ (k : ℕ). start ++ weight_edges ends weight k) (sym (add-one n))

-- one more base
pub base_more : (spans : List Span) (xs ys : List ℤ) (n : ℕ) (b : ℤ) → length xs ≡ n → ys ≡ xs ++ b ∷ [] → ((k : ℕ) → k < n → IsBase (span_at spans k) (weight_at xs k)) → IsBase (span_at spans n) b
    → (k : ℕ) → k < n + 1 → IsBase (span_at spans k) (weight_at ys k)
base_more spans xs ys n b long items each here k l = elim (cases_order k n) [
  | inl same ↦
      let read : weight_at ys k ≡ b = ap (λ (zs : List ℤ). weight_at zs k) items ∙ ap (weight_at (xs ++ b ∷ [])) (same ∙ sym long ∙ plus-none (length xs)) ∙ get_or-append-add xs (b ∷ []) 0 (pos 0) in
      subst (IsBase (span_at spans k)) (sym read) (subst (λ (j : ℕ). IsBase (span_at spans j) b) (sym same) here)
  | inr o ↦ elim o [
    | inl below ↦
        let read : weight_at ys k ≡ weight_at xs k = ap (λ (zs : List ℤ). weight_at zs k) items ∙ get_or_append_left xs (b ∷ []) (pos 0) k (omega arith) in
        subst (IsBase (span_at spans k)) (sym read) (each k below)
    | inr above ↦ absurd (omega arith)
  ]
] where
  plus-none : (m : ℕ) → m ≡ m + 0
  plus-none m = omega arith

-- the parts of a balance's net, one after another
pub whole : (p w s es fs gs hs : List Edge) (d t : Edge) → es ≡ p ++ w → fs ≡ es ++ s → gs ≡ fs ++ d ∷ [] → hs ≡ gs ++ t ∷ [] → hs ≡ p ++ (w ++ (s ++ d ∷ t ∷ []))
whole p w s es fs gs hs d t a b e f =
    f ∙ ap (λ (xs : List Edge). xs ++ t ∷ []) (e ∙ ap (λ (xs : List Edge). xs ++ d ∷ []) (b ∙ ap (λ (xs : List Edge). xs ++ s) a)) ∙ simp append_assoc
