pub mod Flips
pub mod Kinds
pub mod Lists
pub mod Reading
pub mod Rows
pub mod Spoiled
pub mod Touched
-- what only private contracts cite
pub mod Inner
pub mod Schedules
