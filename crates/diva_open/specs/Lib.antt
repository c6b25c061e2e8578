-- What the contracts of this crate and of those above it cite.
pub mod Open
pub mod Ends
pub mod Machine
pub mod Turns
pub mod Laws
-- what only private contracts cite
pub mod Inner
