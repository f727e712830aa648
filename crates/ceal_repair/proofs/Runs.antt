-- A unit that runs, from nothing or in a repair: its steps, blocks, reads and bases.
-- what crates above cite
pub mod NewBlock
pub mod FewNumbers
pub mod Nearness
-- what only this crate cites
pub mod UnitSteps
pub mod RepairView
pub mod RunStart
pub mod RunBlocks
pub mod RunEnd
pub mod NewRead
pub mod NewReadEnd
pub mod BlockBases
pub mod InputPlaces
pub mod NextAct
pub mod RepeatedTurns
pub mod Paid
