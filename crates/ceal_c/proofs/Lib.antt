mod Asked
mod InputHandles
mod Values
