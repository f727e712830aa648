-- The words that a step names: known, placed, and closed under a property.
-- what crates above cite
pub mod StepLocality
pub mod Closed
pub mod ClosedInit
pub mod Placed
pub mod PickedRows
pub mod ValidPicks
pub mod RowKinds
pub mod SameIsEqual
