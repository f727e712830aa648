-- what the crate promises
pub mod Grammar
pub mod Spelled
pub mod Trees
pub mod Faults
pub mod Machine
pub mod Judged
-- what its own functions say of each other
pub mod Follows
