-- what crates above cite
pub mod Options
pub mod Inputs
-- what only this crate cites
pub mod Outputs
pub mod Accepted
pub mod Sessions
mod Samples
