-- What the contracts of this crate and of those above it cite.
pub mod Paths
pub mod Trials
pub mod Kept
pub mod Begun
pub mod Lines
-- what only private contracts cite, and `Kept`
pub mod Inner
pub mod Putting
