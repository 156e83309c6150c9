pub mod Below
pub mod Splice
pub mod Stores
pub mod Logic
