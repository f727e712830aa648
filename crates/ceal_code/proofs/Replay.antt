-- Traces, the run from scratch that they determine, and the memory after both.
-- what crates above cite
pub mod MemoryChanges
pub mod DeterminedRun
pub mod FinalMemory
pub mod ReplayedCall
pub mod AfterLaws
pub mod RunEnds
pub mod Increment
-- what only this crate cites
pub mod StackOver
pub mod Samples
