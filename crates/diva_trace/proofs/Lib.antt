-- The lemmas of this crate.
pub mod Numbered
pub mod Reports
