-- Jumps between the blocks of a graph, and the trees of its blocks.
pub mod JumpCounts
pub mod ForwardJumps
pub mod JumpsLeadToBlocks
pub mod TreesUnfold
pub mod FunctionOfBlock
