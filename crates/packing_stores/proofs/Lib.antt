pub mod Runs
pub mod Chunks
pub mod Front
pub mod Whole
