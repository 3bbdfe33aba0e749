-- The balances of all nodes, after one more pair.
use Rattle.std.proofs.Common.{◌≡◌, ℕ, zero, suc, ◌<◌, ◌+◌, refl, ap, sym, ◌∙◌, subst, arith, inl, inr, Bool, cond, nat_eq, List, [], ◌∷◌, length, take, set, add-one, length-set}
use Rattle.std.proofs.lemmas.Bool.{cases_eq, eq-eqb, ne_eqb}
use Rattle.std.proofs.lemmas.Int.{ints}
use Rattle.std.proofs.lemmas.List.{get_or-set_same, get_or-set_other}
use Rattle.std.specs.Prelude.{ℤ, pos, ◌+ℤ◌, ◌-ℤ◌}
use Rattle.ofit_cut.specs.Sets.{weight_at}
use Rattle.ofit_cut.specs.Balance.{balance, pair_at}
use Rattle.ofit_cut.specs.Balances.{AreBalances}

-- what one pair adds to a node's balance
abbrev shift : ℕ × ℕ → ℤ → ℕ → ℤ
shift pair amount node = cond (nat_eq node pair.0) amount (pos 0) -ℤ cond (nat_eq node pair.1) amount (pos 0)

-- one more pair
balance-suc : (pairs : List (ℕ × ℕ)) (amounts : List ℤ) (k node : ℕ) → k < length pairs → k < length amounts
    → balance (take (suc k) pairs) (take (suc k) amounts) node ≡ balance (take k pairs) (take k amounts) node +ℤ shift (pair_at pairs k) (weight_at amounts k) node
balance-suc [] amounts k node l h = absurd (omega arith)
balance-suc (pair ∷ pairs) [] k node l h = absurd (omega arith)
balance-suc (pair ∷ pairs) (amount ∷ amounts) zero node l h = refl
balance-suc (pair ∷ pairs) (amount ∷ amounts) (suc k) node l h =
    let rest : balance (take (suc k) pairs) (take (suc k) amounts) node ≡ balance (take k pairs) (take k amounts) node +ℤ shift (pair_at pairs k) (weight_at amounts k) node = balance-suc pairs amounts k node (omega arith) (omega arith) in
    omega (arith, ints, rest)

pub balance-more : (pairs : List (ℕ × ℕ)) (amounts : List ℤ) (k node : ℕ) → k < length pairs → k < length amounts
    → balance (take (k + 1) pairs) (take (k + 1) amounts) node ≡ balance (take k pairs) (take k amounts) node +ℤ shift (pair_at pairs k) (weight_at amounts k) node
balance-more pairs amounts k node l h =
    subst (λ (j : ℕ). balance (take j pairs) (take j amounts) node ≡ balance (take k pairs) (take k amounts) node +ℤ shift (pair_at pairs k) (weight_at amounts k) node) (sym (add-one k)) (balance-suc pairs amounts k node l h)

-- a node's balance raised
raised : (balances : List ℤ) (u node : ℕ) (amount : ℤ) → u < length balances
    → weight_at (set balances u (weight_at balances u +ℤ amount)) node ≡ weight_at balances node +ℤ cond (nat_eq node u) amount (pos 0)
raised balances u node amount l = elim (cases_eq node u) [
  | inl same ↦
      let value : weight_at (set balances u (weight_at balances u +ℤ amount)) node ≡ weight_at balances u +ℤ amount =
      ap (weight_at (set balances u (weight_at balances u +ℤ amount))) same ∙ get_or-set_same balances u (weight_at balances u +ℤ amount) (pos 0) l in
      let before : weight_at balances node ≡ weight_at balances u = ap (weight_at balances) same in
      let here : cond (nat_eq node u) amount (pos 0) ≡ amount = ap (λ (b : Bool). cond b amount (pos 0)) (eq-eqb node u same) in
      omega (arith, ints, value, before, here)
  | inr other ↦
      let value : weight_at (set balances u (weight_at balances u +ℤ amount)) node ≡ weight_at balances node = get_or-set_other balances u node (weight_at balances u +ℤ amount) (pos 0) other in
      let here : cond (nat_eq node u) amount (pos 0) ≡ pos 0 = ap (λ (b : Bool). cond b amount (pos 0)) (ne_eqb node u other) in
      omega (arith, ints, value, here)
]

-- a node's balance lowered
lowered : (balances : List ℤ) (u node : ℕ) (amount : ℤ) → u < length balances
    → weight_at (set balances u (weight_at balances u -ℤ amount)) node ≡ weight_at balances node -ℤ cond (nat_eq node u) amount (pos 0)
lowered balances u node amount l = elim (cases_eq node u) [
  | inl same ↦
      let value : weight_at (set balances u (weight_at balances u -ℤ amount)) node ≡ weight_at balances u -ℤ amount =
      ap (weight_at (set balances u (weight_at balances u -ℤ amount))) same ∙ get_or-set_same balances u (weight_at balances u -ℤ amount) (pos 0) l in
      let before : weight_at balances node ≡ weight_at balances u = ap (weight_at balances) same in
      let here : cond (nat_eq node u) amount (pos 0) ≡ amount = ap (λ (b : Bool). cond b amount (pos 0)) (eq-eqb node u same) in
      omega (arith, ints, value, before, here)
  | inr other ↦
      let value : weight_at (set balances u (weight_at balances u -ℤ amount)) node ≡ weight_at balances node = get_or-set_other balances u node (weight_at balances u -ℤ amount) (pos 0) other in
      let here : cond (nat_eq node u) amount (pos 0) ≡ pos 0 = ap (λ (b : Bool). cond b amount (pos 0)) (ne_eqb node u other) in
      omega (arith, ints, value, here)
]

-- the balances of one more pair, from those of its two ends
pub pair_more : (nodes k : ℕ) (pairs : List (ℕ × ℕ)) (amounts before between after : List ℤ) (amount : ℤ) → k < length pairs → k < length amounts → (pair_at pairs k).0 < nodes → (pair_at pairs k).1 < nodes
    → amount ≡ weight_at amounts k → AreBalances nodes (take k pairs) (take k amounts) before → between ≡ set before (pair_at pairs k).0 (weight_at before (pair_at pairs k).0 +ℤ amount)
    → after ≡ set between (pair_at pairs k).1 (weight_at between (pair_at pairs k).1 -ℤ amount) → AreBalances nodes (take (k + 1) pairs) (take (k + 1) amounts) after
pair_more nodes k pairs amounts before between after amount l h low high same so_far first second =
    let low_end = (pair_at pairs k).0 in
    let high_end = (pair_at pairs k).1 in
    let half : length between ≡ nodes = ap (length {A = ℤ}) first ∙ length-set before low_end (weight_at before low_end +ℤ amount) ∙ so_far.counted in
    let both : length after ≡ nodes = ap (length {A = ℤ}) second ∙ length-set between high_end (weight_at between high_end -ℤ amount) ∙ half in
    record {
      counted = both;
      each = λ node inside.
          let up : weight_at between node ≡ weight_at before node +ℤ cond (nat_eq node low_end) amount (pos 0) = ap (λ (xs : List ℤ). weight_at xs node) first ∙ raised before low_end node amount (omega (arith, so_far.counted)) in
          let down : weight_at after node ≡ weight_at between node -ℤ cond (nat_eq node high_end) amount (pos 0) = ap (λ (xs : List ℤ). weight_at xs node) second ∙ lowered between high_end node amount (omega (arith, half)) in
          let out : cond (nat_eq node low_end) amount (pos 0) ≡ cond (nat_eq node low_end) (weight_at amounts k) (pos 0) = ap (λ (z : ℤ). cond (nat_eq node low_end) z (pos 0)) same in
          let into : cond (nat_eq node high_end) amount (pos 0) ≡ cond (nat_eq node high_end) (weight_at amounts k) (pos 0) = ap (λ (z : ℤ). cond (nat_eq node high_end) z (pos 0)) same in
          omega (arith, ints, up, down, out, into, so_far.each node inside, balance-more pairs amounts k node l h);
    }
