-- what crates above cite
pub mod TallyLemmas
-- the rest
pub mod CellsLemmas
pub mod PartsLemmas
pub mod TableLemmas
pub mod HeapLemmas
pub mod Samples
