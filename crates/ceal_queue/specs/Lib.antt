-- what the crate promises
pub mod Queue
-- what its own functions say of each other
pub mod Roomy
