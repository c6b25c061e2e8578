-- What follows from the definitions.
pub mod Clear
pub mod Handing
pub mod Leading
pub mod Whole
