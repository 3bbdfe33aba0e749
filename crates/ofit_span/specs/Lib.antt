pub mod OpenSpan
