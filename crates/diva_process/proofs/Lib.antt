-- The lemmas of this crate.
pub mod Answering
pub mod Completing
pub mod Processing
pub mod Refusing
