-- The lists of a place and of a key, as the nodes give them.
-- what crates above cite
pub mod ListChanges
pub mod PartedLists
-- what only this crate cites
pub mod ListsOfNodes
pub mod KeyedNodes
pub mod ToldWrites
