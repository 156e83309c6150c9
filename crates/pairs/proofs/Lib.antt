pub mod Ranks
pub mod Opening
pub mod Numbers
pub mod Places
pub mod Orders
pub mod Mapping
pub mod Records
