-- What the contracts of this crate and of those above it cite.
pub mod Effects
pub mod Ahead
-- what only private contracts cite
pub mod Inner
