-- The pairs whose two groups have one value.
pub use Rattle.ofit_num.specs.Tight.{value_at, is_tight, tight_among}
