-- The lemmas of this crate.
pub mod Excerpts
pub mod Fronts
pub mod Holding
pub mod Passing
pub mod Rowing
pub mod Waiting
