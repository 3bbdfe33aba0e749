pub mod Bisecting
pub mod Clones
pub mod Editing
pub mod Edits
pub mod EndLists
pub mod Gaps
pub mod GroupNames
pub mod NameSets
pub mod PairLists
pub mod Pairing
mod Popping
pub mod Pushing
pub mod Relating
pub mod Splicing
pub mod Stating
pub mod Places
pub mod Touching
pub mod Uses
mod PrintedNames
pub mod LossTexts
pub mod LossFactors
pub mod FieldReads
pub mod PairOrder
pub mod Zips
pub mod Respliced
pub mod Exchanging
pub mod Preparing
pub mod Earlier
