-- The program of `examples/map.ceal`, and a cell that is put into its list.
mod Steps
mod Runs
mod Update
pub mod NewCell
mod MapSamples
