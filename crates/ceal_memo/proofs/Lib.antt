-- what crates above cite
pub mod Holding
-- what only this crate cites
pub mod Numbers
pub mod Spares
pub mod Chaining
pub mod Grouping
pub mod Linking
pub mod Listing
pub mod Looking
pub mod Entering
pub mod Adding
pub mod Taking
pub mod Walking
pub mod Scrambling
pub mod Samples
