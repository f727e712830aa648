-- what the crate promises
pub mod Program
pub mod Blocks
pub mod Lowering
pub mod Fresh
pub mod Paths
pub mod Sets
pub mod Bits
pub mod Live
pub mod Laws
