-- Stacks, stores and steps that are one up to the numbers of core blocks.
-- what crates above cite
pub mod BlockPairs
pub mod AlikeSteps
pub mod AlikeActs
pub mod AlikeStores
