-- Paths along links, as far as they are followed.
use Rattle.std.proofs.Common.{◌≡◌, ℕ, ◌+◌, ◌<◌, ◌≤◌, sym, ap, subst, ◌∙◌, arith, List, [], ◌∷◌, ◌++◌, length, append_assoc, length-append}
use Rattle.std.proofs.lemmas.List.{append-nil, length_push}
use Rattle.std.specs.Prelude.{Option, Some, None, All}
use Rattle.ofit_fit.specs.Links.{IsLinkWithin, IsPathFrom, link_at}

-- what is left of a path
pub record Rest (links : List (Option ℕ)) (path : List ℕ) (next : Option ℕ) (whole : List ℕ) : Type 0 where
  pub left : List ℕ
  pub parts : whole ≡ path ++ left
  pub goes_on : IsPathFrom links next left

-- each path from the start has so many positions behind it
pub record IsFollowed (links : List (Option ℕ)) (start : ℕ) (n : ℕ) (path : List ℕ) (next : Option ℕ) : Type 0 where
  pub count : length path ≡ n
  pub within : IsLinkWithin (length links) next
  pub rest : (whole : List ℕ) → IsPathFrom links (Some start) whole → Rest links path next whole

pub followed_none : (links : List (Option ℕ)) (start : ℕ) (path : List ℕ) → path ≡ [] → start < length links → IsFollowed links start 0 path (Some start)
followed_none links start path e l = record {
  count = ap length e;
  within = l;
  rest = λ whole h. record { left = whole; parts = ap (λ (xs : List ℕ). xs ++ whole) (sym e); goes_on = h };
}

pub followed_more : (links : List (Option ℕ)) (start n : ℕ) (path after : List ℕ) (next : Option ℕ) (p : ℕ) → All (IsLinkWithin (length links)) links → next ≡ Some p → p < length links → after ≡ path ++ p ∷ []
    → IsFollowed links start n path next → IsFollowed links start (n + 1) after (link_at links p)
followed_more links start n path after next p within e l is h = record {
  count = ap length is ∙ length_push path p ∙ ap (λ (k : ℕ). k + 1) h.count;
  within = within p None l;
  rest = λ whole w. step whole (h.rest whole w);
} where
  none_some : (next : Option ℕ) → next ≡ Some p → next ≡ None → ⊥
  none_some next e f = cc

  go : (whole left : List ℕ) → whole ≡ path ++ left → IsPathFrom links next left → Rest links after (link_at links p) whole
  go whole [] parts on = absurd (none_some next e on)
  go whole (q ∷ left) parts on =
      let same : p ≡ q = cc in
      record {
        left = left;
        parts = parts ∙ ap (λ (k : ℕ). path ++ (k ∷ left)) (sym same) ∙ sym (append_assoc path (p ∷ []) left) ∙ ap (λ (xs : List ℕ). xs ++ left) (sym is);
        goes_on = subst (λ (k : ℕ). IsPathFrom links (link_at links k) left) (sym same) on.1;
      }

  step : (whole : List ℕ) → Rest links path next whole → Rest links after (link_at links p) whole
  step whole r = go whole r.left r.parts r.goes_on

-- with no next position the path is whole
pub followed_end : (links : List (Option ℕ)) (path whole : List ℕ) (next : Option ℕ) → next ≡ None → Rest links path next whole → path ≡ whole
followed_end links path whole next e r = go r.left r.parts r.goes_on where
  go : (left : List ℕ) → whole ≡ path ++ left → IsPathFrom links next left → path ≡ whole
  go [] parts on = sym (parts ∙ append-nil path)
  go (q ∷ left) parts on =
      let f : None ≡ Some q = sym e ∙ on.0 in
      cc

-- and so it is with as many positions as it can have
pub followed_all : (links : List (Option ℕ)) (path whole : List ℕ) (next : Option ℕ) (n : ℕ) → length path ≡ n → length whole ≤ n → Rest links path next whole → path ≡ whole
followed_all links path whole next n count l r = go r.left r.parts where
  go : (left : List ℕ) → whole ≡ path ++ left → path ≡ whole
  go [] parts = sym (parts ∙ append-nil path)
  go (q ∷ left) parts = absurd (omega (arith, ap length parts, length-append path (q ∷ left)))
