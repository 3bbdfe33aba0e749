pub mod Umbrella
pub mod Splits
pub mod Costs
pub mod Fitted
