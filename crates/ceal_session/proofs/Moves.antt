-- What a session is at its beginning, after a run, and after an edit.
pub mod StateAfterRun
pub mod StateAfterEdit
pub mod SessionTrace
pub mod FirstState
pub mod PlacesOfInputs
pub mod StateAfterMark
