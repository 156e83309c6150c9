pub mod Entries
pub mod Judging
