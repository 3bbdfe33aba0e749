-- rows of small values and weights, and groups that are added one by one
use Rattle.std.proofs.Common.{◌≡◌, ℕ, ◌+◌, ◌<◌, ◌≤◌, sym, ap, ◌∙◌, arith, List, [], ◌∷◌, ◌++◌, append_assoc, length, length-append, subst, cond}
use Rattle.std.proofs.lemmas.List.{append-nil}
use Rattle.std.proofs.lemmas.List.Elements.{All-nil, All-cons, All-append}
use Rattle.std.specs.Prelude.{All, unsigned_abs, nat_lt}
use Rattle.ofit_num.specs.declared.row.Row.{Row}
use Rattle.ofit_num.specs.RowTotals.{all_rows}
use Rattle.ofit_num.specs.RowLimits.{IsRowWithinLimits}
use Rattle.ofit_loss.specs.Rows.{AreFittable}

-- 1 for a row that is no observation
abbrev special : Row → ℕ
special r = cond (nat_lt 4294967293 r.number) 1 0

pub record IsSmall (r : Row) : Type 0 where
  pub within : IsRowWithinLimits r
  pub weight : r.weight ≤ 3
  pub plain : special r ≡ 0

pub small : (r : Row) → r.number ≡ 1 → unsigned_abs r.value ≤ 4 → 0 < r.weight → r.weight ≤ 3 → IsSmall r
small r number value least most = record {
  within = record { value = omega (arith, value); weight = omega (arith, least) };
  weight = most;
  plain = ap (λ (n : ℕ). cond {A = ℕ} (nat_lt 4294967293 n) 1 0) number;
}

pub six_fittable : (a b c d e f : Row) → IsSmall a → IsSmall b → IsSmall c → IsSmall d → IsSmall e → IsSmall f → AreFittable (a ∷ b ∷ c ∷ d ∷ e ∷ f ∷ [])
six_fittable a b c d e f sa sb sc sd se sf = record {
  limits = record {
    each = All-cons IsRowWithinLimits a (b ∷ c ∷ d ∷ e ∷ f ∷ []) sa.within (All-cons IsRowWithinLimits b (c ∷ d ∷ e ∷ f ∷ []) sb.within (All-cons IsRowWithinLimits c (d ∷ e ∷ f ∷ []) sc.within (All-cons IsRowWithinLimits d (e ∷ f ∷ []) sd.within (All-cons IsRowWithinLimits e (f ∷ []) se.within (All-cons IsRowWithinLimits f [] sf.within (All-nil IsRowWithinLimits))))));
    together = omega (arith, sa.weight, sb.weight, sc.weight, sd.weight, se.weight, sf.weight);
  };
  special = omega (arith, sa.plain, sb.plain, sc.plain, sd.plain, se.plain, sf.plain);
}

pub all_rows-push : (groups : List (List Row)) (rows : List Row) → all_rows (groups ++ rows ∷ []) ≡ all_rows groups ++ rows
all_rows-push [] rows = append-nil rows
all_rows-push (xs ∷ groups) rows = ap (λ (t : List Row). xs ++ t) (all_rows-push groups rows) ∙ sym (append_assoc xs (all_rows groups) rows)

-- what is grouped so far, and one group more of what is left
pub grouped_more : (groups more : List (List Row)) (front back rest rows : List Row) → more ≡ groups ++ front ∷ [] → rest ≡ front ++ back → 0 < length front → All (λ rows. 0 < length rows) groups
    → all_rows groups ++ rest ≡ rows → length groups + length rest ≤ length rows
    → (All (λ rows. 0 < length rows) more) × (all_rows more ++ back ≡ rows) × (length more + length back ≤ length rows)
grouped_more groups more front back rest rows e d l filled whole short =
    let P : List Row → Type 0 = λ rows. 0 < length rows in
    let Q : List (List Row) → Type 0 = All P in (
      subst Q (sym e) (All-append P groups (front ∷ []) filled (All-cons P front [] l (All-nil P))),
      ap (λ (g : List (List Row)). all_rows g ++ back) e ∙ ap (λ (r : List Row). r ++ back) (all_rows-push groups front) ∙ append_assoc (all_rows groups) front back
          ∙ ap (λ (r : List Row). all_rows groups ++ r) (sym d) ∙ whole,
      omega (arith, short, l, ap length e, ap length d, length-append groups (front ∷ []), length-append front back),
    )
