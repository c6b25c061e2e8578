-- The lemmas of this crate.
pub mod ChoiceLemmas
pub mod LabLaw
pub mod PartLemmas
pub mod RateLaw
pub mod RateLemmas
