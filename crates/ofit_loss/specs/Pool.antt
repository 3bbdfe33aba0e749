-- What a caller knows of pools: they are pools of some rows.
use Rattle.std.specs.Prelude.{◌<◌, List, ◌++◌, length}
use Rattle.ofit_num.specs.declared.row.Row.{Row}
use Rattle.ofit_loss.specs.Rows.{AreFittable}

-- the pool is of rows that a loss takes, of which there is at least one
pub record IsFilled {P : Type 0} (IsPoolOf : P → List Row → Type 0) (pool : P) : Type 0 where
  pub rows : List Row
  pub pooled : IsPoolOf pool rows
  pub fittable : AreFittable rows
  pub some : 0 < length rows

-- the pools are of rows that a loss takes together
pub record CanJoin {P : Type 0} (IsPoolOf : P → List Row → Type 0) (left right : P) : Type 0 where
  pub front : List Row
  pub back : List Row
  pub left_pooled : IsPoolOf left front
  pub right_pooled : IsPoolOf right back
  pub fittable : AreFittable (front ++ back)

-- the pools are of rows that a loss takes together, of which there is at least one
pub record CanMerge {P : Type 0} (IsPoolOf : P → List Row → Type 0) (left right : P) : Type 0 where
  pub front : List Row
  pub back : List Row
  pub left_pooled : IsPoolOf left front
  pub right_pooled : IsPoolOf right back
  pub fittable : AreFittable (front ++ back)
  pub some : 0 < length (front ++ back)
