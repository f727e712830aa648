-- what crates above cite
pub mod ReadBack
-- the rest
pub mod Loops
pub mod Joined
pub mod Decided
pub mod Plain
mod Samples
