-- what crates above cite
pub mod Lists
pub mod Nodes
pub mod Runs
pub mod Propagation
-- what only this crate cites
pub mod QueueCover
pub mod TableCalls
pub mod Reuse
pub mod KeptNodes
pub mod Revocation
pub mod Samples
