pub mod Keeping
pub mod Numbering
pub mod Pathing
pub mod Putting
pub mod Sizes
