-- what the crate promises
pub mod Engine
pub mod Repaired
pub mod Keeping
pub mod Runs
pub mod Partial
pub mod Cost
pub mod Room
pub mod Apart
pub mod Marks
pub mod Calls
pub mod Advance
-- what its own functions say of each other
pub mod Reading
