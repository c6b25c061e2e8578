-- What the contracts of this crate cite.
pub mod Rated
-- what only private contracts cite
pub mod Inner
