-- Change propagation, turn by turn, and its slices.
-- what crates above cite
pub mod Departing
-- what only this crate cites
pub mod KeptRun
pub mod TurnBegin
pub mod TurnAgreement
pub mod TurnCourse
pub mod TurnEnd
pub mod NewBlockNumbers
pub mod StaleNotDone
pub mod UpToDateHonest
pub mod UpToDateRun
pub mod SlicesOfRun
