-- what the crate promises
pub mod Cell
pub mod Marks
pub mod Mods
pub mod Writes
pub mod Index
pub mod Slots
