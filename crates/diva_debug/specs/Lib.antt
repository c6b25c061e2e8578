-- What the contracts of this crate and of those above it cite.
pub mod Ranges
pub mod Kinds
pub mod Reading
pub mod Moves
pub mod Replies
pub mod Undos
pub mod Rewindable
pub mod Sessions
-- what only private contracts cite
pub mod Inner
