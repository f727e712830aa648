-- what the crate promises
pub mod Value
pub mod Init
pub mod Frame
pub mod Jumps
pub mod Exec
pub mod Fresh
-- what its own functions say of each other
pub mod Todo
pub mod Steps
