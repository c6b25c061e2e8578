-- What the contracts of this crate cite.
pub mod Choices
pub mod Commands
pub mod Inject
pub mod Lab
pub mod Rate
pub mod Rows
-- what only private contracts cite
pub mod Inner
