-- what the crate promises
pub mod Cells
pub mod Parts
pub mod Table
pub mod Heap
-- what its own functions say of each other
pub mod Stack
