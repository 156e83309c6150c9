pub mod Packed
pub mod Standing
pub mod Agreeing
pub mod Numbers
