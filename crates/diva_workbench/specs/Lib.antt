-- What the contracts of this crate cite.
pub mod DrawTexts
pub mod Injects
pub mod Judges
pub mod Lab
-- what only private contracts cite
pub mod Draws
pub mod Injecting
