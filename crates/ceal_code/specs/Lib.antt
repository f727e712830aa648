-- what the crate promises
pub mod Program
pub mod Value
pub mod Init
pub mod Step
pub mod Fresh
pub mod Replay
pub mod Valid
pub mod OnPath
pub mod Listing
pub mod Known
pub mod Alike
pub mod Fitting
pub mod Running
pub mod Determined
pub mod Laws
pub mod Over
pub mod PlainWords
pub mod Piles
pub mod Stacks
pub mod Tables
pub mod After
-- what its own functions say of each other
pub mod Parts
pub mod Branches
pub mod Weaving
pub mod Arithmetic
