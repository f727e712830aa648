-- The inputs of a session: their names and shapes, edits of them, and what a run leaves of them.
pub mod UndoneEdits
pub mod RunKeepsInputs
pub mod ExtendedInputs
pub mod ShapesOfInputs
pub mod NamesInTable
