-- The machine of repair, over trees and over flat items.
-- what crates above cite
pub mod MachineLaws
pub mod MoveKeepsEnd
pub mod ChosenNumbers
-- what only this crate cites
pub mod FlatMachine
pub mod Segments
