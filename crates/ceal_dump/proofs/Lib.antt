-- what crates above cite
pub mod Steps
pub mod Numbers
pub mod Records
pub mod Loops
pub mod Decided
-- the rest
pub mod ReadBack
pub mod Ranges
mod Samples
