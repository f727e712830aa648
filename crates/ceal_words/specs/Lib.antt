-- what the crate promises
pub mod Lengths
pub mod SizeClass
pub mod Region
-- what its own functions say of each other
pub mod Layout
pub mod Memory
pub mod Written
