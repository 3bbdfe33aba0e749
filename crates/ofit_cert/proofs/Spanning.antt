-- A list of open spans that grows by one.
use Rattle.std.proofs.Common.{◌≡◌, ◌∙◌, ◌<◌, ◌+◌, ℕ, List, [], ◌∷◌, ◌++◌, length, get_or, sym, ap, arith, below_more}
use Rattle.std.proofs.lemmas.List.{get_or_push, get_or_append_left}
use Rattle.std.proofs.lemmas.Option.{slice_get-get_or}
use Rattle.std.specs.Prelude.{slice_get, Some, unwrap_or, Option, pos}
use Rattle.ofit_num.specs.Fraction.{Fraction}
use Rattle.ofit_cut.specs.declared.span.Span.{Span}
use Rattle.ofit_cut.specs.Span.{span_at, no_limits}
use Rattle.ofit_cert.specs.Tight.{own}

pub own_is : (fs : List Fraction) (g : ℕ) (f : Fraction) → slice_get fs g ≡ Some f → own fs g ≡ f
own_is fs g f e = ap (λ (o : Option Fraction). unwrap_or o (record { num = pos 0; den = 1 })) e

pub get_is : (fs : List Fraction) (g : ℕ) (f : Fraction) → g < length fs → f ≡ get_or fs g f → slice_get fs g ≡ Some f
get_is fs g f l e = slice_get-get_or fs g f l ∙ ap Some (sym e)

pub own_at : (fs : List Fraction) (g : ℕ) → g < length fs → slice_get fs g ≡ Some (own fs g)
own_at fs g l = slice_get-get_or fs g (record { num = pos 0; den = 1 }) l ∙ ap Some (sym (own_is fs g (get_or fs g (record { num = pos 0; den = 1 })) (slice_get-get_or fs g (record { num = pos 0; den = 1 }) l)))

-- a span more
pub span_more : (spans : List Span) (span : Span) (n : ℕ) (F : ℕ → Span) → length spans ≡ n → ((g : ℕ) → g < n → span_at spans g ≡ F g) → span ≡ F n → (g : ℕ) → g < n + 1 → span_at (spans ++ span ∷ []) g ≡ F g
span_more spans span n F counted each here =
    below_more (λ g. span_at (spans ++ span ∷ []) g ≡ F g) n
    (λ g l. get_or_append_left spans (span ∷ []) no_limits g (omega (arith, counted, l)) ∙ each g l)
    (get_or_push spans span no_limits n counted ∙ here)
