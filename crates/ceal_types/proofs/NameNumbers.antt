-- Names and their numbers in a table.
pub mod FoundPlace
pub mod NamesOfStructs
pub mod NumberOfName
pub mod FirstFew
pub mod FirstOfName
