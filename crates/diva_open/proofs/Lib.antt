-- What follows from the definitions.
pub mod Fronts
pub mod Leaving
pub mod Phases
pub mod Placed
pub mod Placing
pub mod Righting
pub mod Turning
