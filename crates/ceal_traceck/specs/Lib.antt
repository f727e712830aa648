-- what the crate promises
pub mod Verdicts
pub mod Laws
pub mod Items
-- what its own functions say of each other
pub mod Walk
