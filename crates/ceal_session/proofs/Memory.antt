-- The memory of a finished run: the engine shows that of the source, up to the numbers of core blocks.
pub mod BlocksUpToNumbers
pub mod SeenBlocks
pub mod EngineTellsRun
