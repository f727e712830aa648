-- what crates above cite
pub mod IndexLemmas
pub mod StampLemmas
-- the rest
pub mod ModsLemmas
pub mod WritesLemmas
pub mod Samples
pub mod MarksLemmas
pub mod ChangedPlaces
pub mod RenewedMarks
pub mod ToldCells
