-- what crates above cite
pub mod Left
-- the rest
pub mod Places
pub mod Words
pub mod InOrder
pub mod SomeRecord
pub mod Certified
pub mod Samples
