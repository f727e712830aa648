-- what the crate promises
pub mod Entries
pub mod Expressions
pub mod Units
pub mod Laws
-- what its own functions say of each other
pub mod Table
pub mod Body
