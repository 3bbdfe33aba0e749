pub mod Tight
pub mod OpenSpans
pub mod TightFlows
pub mod FitSheet
