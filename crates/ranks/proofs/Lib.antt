pub mod Carrying
pub mod Holding
pub mod Finding
