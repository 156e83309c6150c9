pub mod Listed
pub mod Closed
