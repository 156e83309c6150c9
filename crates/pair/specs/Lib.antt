pub mod Start
pub mod Room
pub mod Format
pub mod Stores
pub mod WrittenBack
pub mod Where
pub mod Refusing
pub mod Main
