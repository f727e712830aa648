-- Repairs in progress: slices, turns of one read, and what holds after each.
-- what crates above cite
pub mod SliceLaws
pub mod CarriedLaws
pub mod Soundness
pub mod DoneReplays
pub mod AddedBlocks
pub mod Progress
-- what only this crate cites
pub mod PastLaws
pub mod SliceFunction
pub mod PartYields
pub mod UnlimitedSlice
pub mod DoneTest
pub mod Composition
pub mod SoundComposition
pub mod Decomposition
pub mod CoreBases
pub mod OneTurn
pub mod KnownAtStaleRead
pub mod SliceSamples
