-- The lemmas of this crate.
pub mod Spanning
pub mod Words
pub mod Writing
