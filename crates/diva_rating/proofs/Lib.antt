-- The lemmas of this crate.
pub mod Reading
pub mod Writing
