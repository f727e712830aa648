-- what crates above cite
pub mod Equations
pub mod Words
pub mod Alike
pub mod Replay
pub mod TypedCode
