pub mod Sums
pub mod Ways
pub mod Rising
pub mod Picked
pub mod Counted
pub mod Recurrence
pub mod Rows
pub mod TextLeft
