pub mod Below
pub mod Splice
pub mod Stores
pub mod Pieces
pub mod Logic
pub mod Copies
