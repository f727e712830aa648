-- what crates above cite
pub mod Callers
-- the rest
mod PrefixSteps
mod SessionLaws
mod AloneLaws
mod SomeLaws
mod Answering
mod Finding
mod Replying
mod Samples
