pub mod Pieces
mod Samples
pub mod Steps
