pub mod Signed
pub mod Listed
