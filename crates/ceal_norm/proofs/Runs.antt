-- The code of a graph runs as the graph does.
pub mod SameValues
pub mod SameInitialBlocks
pub mod WordsOfVariables
pub mod SameFrames
pub mod SameSteps
pub mod SameRuns
