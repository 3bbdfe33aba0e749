-- What the sizes of weights and spans bound.
use Rattle.std.proofs.Common.{◌≡◌, ℕ, zero, suc, ◌<◌, ◌≤◌, ◌+◌, ◌*◌, ◌^◌, refl, ap, ◌∙◌, arith, List, [], ◌∷◌, length, take, add-one, subst}
use Rattle.std.proofs.lemmas.Int.{ints, fits_signed_from_abs}
use Rattle.std.specs.Int.{w128}
use Rattle.std.specs.Int.RustNames.{FitsSigned}
use Rattle.std.proofs.lemmas.List.{take_all}
use Rattle.std.proofs.lemmas.List.Sums.{sum_by_more, sum_by-cons, sum_by-take-le}
use Rattle.std.proofs.lemmas.List.Elements.{All-from_get_or}
use Rattle.std.specs.List.{sum_by, All}
use Rattle.std.specs.Prelude.{ℤ, pos, negsuc, ◌+ℤ◌, ◌≤ℤ◌, unsigned_abs}
use Rattle.ofit_cut.specs.declared.span.Span.{Span}
use Rattle.ofit_cut.specs.Sets.{weight_at, total_size}
use Rattle.ofit_cut.specs.Span.{span_at, span_size, total_span}
use Rattle.ofit_cut.specs.Edges.{gain, loss, sum_to}
use Rattle.ofit_cut.specs.Slack.{supply, demand, AreBases}
use Rattle.ofit_cut.proofs.Sums.{sum_to-low}
use Rattle.ofit_cut.proofs.Capacity.{gain-low, loss-low}

gain-size : (w : ℤ) → gain w +ℤ loss w ≡ pos (unsigned_abs w)
gain-size (pos n) = omega (arith, ints)
gain-size (negsuc n) = omega (arith, ints)

-- what the first weights give and take is what their sizes sum to
pub turnover-size : (ws : List ℤ) (n : ℕ) → n ≤ length ws → supply ws n +ℤ demand ws n ≡ pos (sum_by unsigned_abs (take n ws))
turnover-size ws zero l = refl
turnover-size ws (suc n) l =
    let more : sum_by unsigned_abs (take (suc n) ws) ≡ sum_by unsigned_abs (take n ws) + unsigned_abs (weight_at ws n) =
    subst (λ (k : ℕ). sum_by unsigned_abs (take k ws) ≡ sum_by unsigned_abs (take n ws) + unsigned_abs (weight_at ws n)) (add-one n) (sum_by_more unsigned_abs ws n (pos 0) (omega arith)) in
    omega (arith, ints, turnover-size ws n (omega arith), more, gain-size (weight_at ws n))

pub turnover-all : (ws : List ℤ) → supply ws (length ws) +ℤ demand ws (length ws) ≡ pos (total_size ws)
turnover-all ws = turnover-size ws (length ws) (omega arith) ∙ ap (λ (xs : List ℤ). pos (sum_by unsigned_abs xs)) (take_all (length ws) ws (omega arith))

-- sizes that are each at most a span's
total-le : (ws : List ℤ) (spans : List Span) → length ws ≡ length spans → ((k : ℕ) → k < length spans → unsigned_abs (weight_at ws k) ≤ span_size (span_at spans k)) → total_size ws ≤ total_span spans
total-le [] [] h le = omega arith
total-le [] (s ∷ spans) h le = absurd (omega arith)
total-le (w ∷ ws) [] h le = absurd (omega arith)
total-le (w ∷ ws) (s ∷ spans) h le =
    let rest : total_size ws ≤ total_span spans = total-le ws spans (omega arith) (λ k l. le (suc k) (omega arith)) in
    let first : unsigned_abs w ≤ span_size s = le 0 (omega arith) in
    omega (arith, rest, first, sum_by-cons unsigned_abs w ws, sum_by-cons span_size s spans)

pub bases-size : (spans : List Span) (bases : List ℤ) → AreBases spans bases → total_size bases ≤ total_span spans
bases-size spans bases all = total-le bases spans all.counted (λ k l. (all.each k l).small)

-- one span is at most all
pub span-le : (spans : List Span) (k : ℕ) → k < length spans → span_size (span_at spans k) ≤ total_span spans
span-le [] k l = absurd (omega arith)
span-le (s ∷ spans) zero l = omega (arith, sum_by-cons span_size s spans)
span-le (s ∷ spans) (suc k) l = let rest : span_size (span_at spans k) ≤ total_span spans = span-le spans k (omega arith) in omega (arith, rest, sum_by-cons span_size s spans)

pub weight-le : (ws : List ℤ) (k : ℕ) → k < length ws → unsigned_abs (weight_at ws k) ≤ total_size ws
weight-le [] k l = absurd (omega arith)
weight-le (w ∷ ws) zero l = omega (arith, sum_by-cons unsigned_abs w ws)
weight-le (w ∷ ws) (suc k) l = let rest : unsigned_abs (weight_at ws k) ≤ total_size ws = weight-le ws k (omega arith) in omega (arith, rest, sum_by-cons unsigned_abs w ws)

-- an amount of at most 2·10^33 fits 128 bits
pub fits-amount : (z : ℤ) → pos 0 ≤ℤ z → z ≤ℤ pos (2 * 10 ^ 33) → FitsSigned w128 z
fits-amount (pos n) low high = fits_signed_from_abs w128 (pos n) (omega (arith, ints))
fits-amount (negsuc n) low high = absurd (omega (arith, ints))

-- a running total is at most the whole
prefix-le : (ws : List ℤ) (n : ℕ) → n ≤ length ws → (supply ws n +ℤ demand ws n) ≤ℤ pos (total_size ws)
prefix-le ws n l = omega (arith, ints, turnover-size ws n l, sum_by-take-le unsigned_abs ws n)

low : (f : ℤ → ℤ) (ws : List ℤ) (n : ℕ) → ((w : ℤ) → pos 0 ≤ℤ f w) → pos 0 ≤ℤ sum_to (λ v. f (weight_at ws v)) n
low f ws n h = sum_to-low (λ v. f (weight_at ws v)) n (λ v l. h (weight_at ws v))

pub supply-small : (ws : List ℤ) (n : ℕ) → n ≤ length ws → total_size ws ≤ 2 * 10 ^ 33 → supply ws n ≤ℤ pos (2 * 10 ^ 33)
supply-small ws n l h = omega (arith, ints, prefix-le ws n l, low loss ws n loss-low)

pub demand-small : (ws : List ℤ) (n : ℕ) → n ≤ length ws → total_size ws ≤ 2 * 10 ^ 33 → demand ws n ≤ℤ pos (2 * 10 ^ 33)
demand-small ws n l h = omega (arith, ints, prefix-le ws n l, low gain ws n gain-low)

pub supply-fits : (ws : List ℤ) (n : ℕ) → n ≤ length ws → total_size ws ≤ 2 * 10 ^ 33 → FitsSigned w128 (supply ws n)
supply-fits ws n l h = fits-amount (supply ws n) (low gain ws n gain-low) (supply-small ws n l h)

pub demand-fits : (ws : List ℤ) (n : ℕ) → n ≤ length ws → total_size ws ≤ 2 * 10 ^ 33 → FitsSigned w128 (demand ws n)
demand-fits ws n l h = fits-amount (demand ws n) (low loss ws n loss-low) (demand-small ws n l h)

pub weights-small : (ws : List ℤ) → total_size ws ≤ 2 * 10 ^ 33 → All (λ w. unsigned_abs w ≤ 2 * 10 ^ 33) ws
weights-small ws h = All-from_get_or (λ w. unsigned_abs w ≤ 2 * 10 ^ 33) ws (pos 0) (λ k l. omega (arith, weight-le ws k l))
