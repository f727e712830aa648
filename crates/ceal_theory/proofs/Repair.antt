-- The repair of a trace, by rules and as a function: it is there, it is one, it replays and is honest.
-- what crates above cite
pub mod RepairLaws
pub mod RepairReplays
pub mod Honesty
pub mod RepairInvariant
pub mod FunctionOfRules
pub mod FromScratch
pub mod EndAsFromScratch
pub mod DistinctBlocks
-- what only this crate cites
pub mod RepairYields
pub mod YieldsByStep
pub mod Existence
pub mod Uniqueness
pub mod HonestUnchanged
pub mod Samples
