-- What follows from the definitions.
pub mod Steps
pub mod Parts
pub mod Counting
pub mod Registers
pub mod Room
pub mod Ends
pub mod Stored
pub mod Unread
pub mod Undoing
