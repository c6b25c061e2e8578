-- What follows from the definitions.
pub mod Going
pub mod Replaying
pub mod Growing
pub mod Fronting
pub mod Readying
pub mod Owing
pub mod Moving
pub mod Cycles
pub mod Logging
pub mod Progress
pub mod Turning
