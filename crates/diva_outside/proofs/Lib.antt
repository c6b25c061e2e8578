-- The lemmas of this crate.
pub mod Digits
pub mod Radix
pub mod Sinks
pub mod Splitting
