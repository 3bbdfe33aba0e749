-- The pairs whose two groups have one value, along which flows may stand.
pub use Rattle.ofit_num.specs.Tight.{value_at as own, is_tight, tight_among}
