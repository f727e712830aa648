-- what crates above cite
pub mod Engine
-- the rest
pub mod Inputs
pub mod Replies
pub mod Moves
pub mod Memory
pub mod Saves
pub mod Situations
pub mod Costs
mod Samples
