pub mod Decisions
pub mod Puts
