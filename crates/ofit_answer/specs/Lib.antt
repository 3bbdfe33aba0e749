pub mod Endings
pub mod ErrorText
pub mod MessageText
pub mod Status
pub mod Tells
pub mod VerdictText
pub mod PeakVerdictText
pub mod Named
