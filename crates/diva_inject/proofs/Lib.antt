-- The lemmas of this crate.
pub mod Lines
pub mod Nexts
pub mod Whole
