-- what the crate promises
pub mod Tables
pub mod Walk
pub mod Kinds
pub mod Heads
pub mod Expressions
pub mod Statements
pub mod Checked
pub mod Limits
pub mod Resolves
pub mod Known
pub mod Faults
pub mod Laws
pub mod Numbers
-- what its own functions say of each other
pub mod States
