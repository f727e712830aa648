-- what the crate promises
pub mod Causes
pub mod Lists
pub mod Engines
-- what its own functions say of each other
pub mod Sizes
