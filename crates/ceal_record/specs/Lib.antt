-- what the crate promises
pub mod Recorded
pub mod Laws
pub mod Certificates
-- what its own functions say of each other
pub mod Numbers
