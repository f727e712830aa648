-- what the crate promises
pub mod Exchange
pub mod Turns
pub mod Words
pub mod Laws
-- what its own functions say of each other
pub mod Listening
pub mod Replying
pub mod Troubles
