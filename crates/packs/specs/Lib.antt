pub mod Pack
pub mod Numbers
