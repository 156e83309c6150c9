pub mod Values
pub mod Rows
pub mod Held
pub mod Counts
