pub mod PrintSteps
pub mod PrintMarks
pub mod PrintPhrase
pub mod PrintStatement
pub mod PrintProgram
pub mod PrintLexemes
pub mod PrintText
pub mod PrintSource
pub mod PrintBack
mod PrintSamples
