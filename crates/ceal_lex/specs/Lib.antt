-- what the crate promises
pub mod Characters
pub mod Spelling
pub mod Pieces
pub mod Parts
pub mod Tokens
pub mod Faults
-- what its own functions say of each other
pub mod Front
pub mod Reading
