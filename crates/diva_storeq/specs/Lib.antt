-- What the contracts of this crate and of those above it cite.
pub mod Masked
pub mod Stores
-- what only private contracts cite
pub mod Width
