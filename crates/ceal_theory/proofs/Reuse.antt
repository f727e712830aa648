-- What is taken from old items, and what is left over.
-- what crates above cite
pub mod TakenItems
pub mod FlatTake
pub mod StepsBetween
pub mod TakenAfterRevocation
pub mod OldBlocksOnly
