-- what crates above cite
pub mod Repair
pub mod Reuse
pub mod Store
pub mod MoveMachine
pub mod Renaming
pub mod SlicedRepair
pub mod Nodes
pub mod Work
-- what only this crate cites
pub mod QueueCover
pub mod SampleBox
