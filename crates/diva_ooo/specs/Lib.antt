pub mod Profile
pub mod WindowEntry
pub mod Finish
pub mod Issue
pub mod Ooo
-- what only private contracts cite
pub mod Board
pub mod Known
pub mod MarkSets
