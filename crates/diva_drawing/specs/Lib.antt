-- What the contracts of this crate and of those above it cite.
pub mod Snapshot
pub mod Rows
pub mod Log
pub mod Drawing
-- what only private contracts cite
pub mod Pieces
