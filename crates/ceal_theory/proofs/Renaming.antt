-- The numbers of core blocks, renamed one to one.
-- what crates above cite
pub mod GivenNumbers
pub mod RenamedSlice
-- what only this crate cites
pub mod NamedBeginning
pub mod FlippedPairs
pub mod RenamedTrace
pub mod RenamedWalk
pub mod RepairSideBySide
pub mod RenamedRepair
pub mod RenamedSoundness
