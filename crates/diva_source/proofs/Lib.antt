-- The lemmas of this crate.
pub mod Lines
pub mod Runs
pub mod Scanning
pub mod Words
