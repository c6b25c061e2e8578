-- What follows from the definitions.
pub mod EachKind
pub mod Halting
pub mod LastKind
pub mod Passing
pub mod Placed
pub mod Standing
pub mod Words
