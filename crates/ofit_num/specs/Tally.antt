use Rattle.std.specs.Prelude.{ℕ}

-- how many components were fitted, and how many of them by cuts
pub record Counts : Type 0 where
  pub fits : ℕ
  pub cuts : ℕ
