-- One draw and two draws more.
use Rattle.std.proofs.Common.{◌≡◌, ◌+◌, ◌∙◌, ℕ, suc, sym, ap, arith}
use Rattle.ofit_sample.specs.Generator.{next_number, number_after}

pub after_next : (seed draws : ℕ) → number_after seed (draws + 1) ≡ next_number (number_after seed draws)
after_next seed draws = let next : draws + 1 ≡ suc draws = omega arith in ap (λ (n : ℕ). number_after seed n) next

pub after_two : (seed draws : ℕ) → number_after seed (draws + 2) ≡ next_number (next_number (number_after seed draws))
after_two seed draws =
    let next : draws + 2 ≡ suc (draws + 1) = omega arith in
    ap (λ (n : ℕ). number_after seed n) next ∙ ap next_number (after_next seed draws)

pub drawn_on : (x y z : ℕ) → y ≡ next_number x → z ≡ next_number y → (seed draws : ℕ) → x ≡ number_after seed draws → z ≡ number_after seed (draws + 2)
drawn_on x y z first second seed draws is = second ∙ ap next_number (first ∙ ap next_number is) ∙ sym (after_two seed draws)
