-- the places of faults
pub mod Near
pub mod TokensNear
pub mod TreeNear
pub mod TypeFaultsNear
pub mod TypedNear
pub mod UsageFaultsNear
pub mod BlocksNear
pub mod FirstPlace
