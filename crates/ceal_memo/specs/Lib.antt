-- what the crate promises
pub mod Keys
pub mod Memo
pub mod Seeds
pub mod Numbers
-- what its own functions say of each other
pub mod Hashes
pub mod Table
pub mod Lists
pub mod Homes
pub mod Chains
