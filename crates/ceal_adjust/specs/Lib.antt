-- what the crate promises
pub mod Answers
pub mod KnownBlocks
pub mod Slicing
-- what its own functions say of each other
pub mod Marks
pub mod Places
pub mod Spots
pub mod Closures
pub mod Machines
pub mod Alone
