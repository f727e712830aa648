pub mod Pieces
pub mod Stands
pub mod Parts
pub mod Source
pub mod Lengths
pub mod Workloads
