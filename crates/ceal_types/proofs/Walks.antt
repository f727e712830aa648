-- Walks over lists: what each step keeps, all keep, and a fault of an item is that of the walk.
pub mod WalkFromItem
pub mod WalkKeeps
pub mod LongerList
pub mod LastItemTaken
pub mod AllArguments
pub mod ElementsOfRow
