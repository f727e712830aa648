-- what crates above cite
pub mod MarkedEnds
pub mod Advanced
pub mod Present
-- what only this crate cites
pub mod Inputs
pub mod MoreMemory
pub mod RunMemory
pub mod LiveCount
pub mod Repairs
pub mod Keeping
pub mod Propagated
pub mod ReadRun
pub mod Flattening
pub mod NewInput
pub mod Carrying
pub mod NoneStale
pub mod Restored
pub mod EngineLaws
pub mod TraceSoFar
pub mod CostOfCalls
pub mod ReadsApart
pub mod Samples
pub mod Settled
