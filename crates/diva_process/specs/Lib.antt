-- What the contracts of this crate cite.
pub mod Programs
pub mod Lines
pub mod Stops
pub mod Answers
pub mod Statuses
pub mod Promises
pub mod Process
-- what a command's own functions promise of what they write
pub mod Writing
