-- What an engine does to its nodes, as the machine sees it.
-- what crates above cite
pub mod EngineMoves
pub mod TurnCourse
-- what only this crate cites
pub mod Layers
