-- what crates above cite
pub mod Coded
-- the rest
pub mod Accepted
pub mod Answering
pub mod Coming
pub mod Positions
pub mod ShortLists
mod Samples
