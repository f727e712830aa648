-- what the crate promises
pub mod Folding
pub mod Traces
pub mod Laws
-- what its own functions say of each other
pub mod States
pub mod Trees
