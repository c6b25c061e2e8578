-- The lemmas of this crate.
pub mod Adding
pub mod Keeping
pub mod Lending
pub mod Listing
pub mod Logging
pub mod Sentences
pub mod SoFar
pub mod Taking
pub mod Turning
