-- What a node reaches in the residual net.
use Rattle.std.specs.Prelude.{◌≡◌, ℕ, ℤ, Bool, true, List}
use Rattle.ofit_flow.specs.declared.edge.Edge.{Edge}
use Rattle.ofit_flow.specs.Cut.{IsCut}
use Rattle.ofit_flow.specs.Residual.{IsClosed}

-- the smallest set that has `start` and that no residual arc leaves
pub record IsReach (edges : List Edge) (amounts : List ℤ) (start : ℕ) (set : ℕ → Bool) : Type 0 where
  pub started : set start ≡ true
  pub closed : IsClosed edges amounts set
  pub least : (other : ℕ → Bool) → other start ≡ true → IsClosed edges amounts other → (node : ℕ) → set node ≡ true → other node ≡ true

-- no residual arc leaves some cut, so that nothing more can go from the source to the sink
pub record IsBlocked (edges : List Edge) (source sink : ℕ) (amounts : List ℤ) : Type 0 where
  pub set : ℕ → Bool
  pub cut : IsCut source sink set
  pub closed : IsClosed edges amounts set
