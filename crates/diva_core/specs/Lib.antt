pub mod Cycle
pub mod Difference
pub mod Effects
pub mod Entries
pub mod Future
pub mod HartCycle
pub mod Headline
pub mod History
pub mod Legs
pub mod Machine
pub mod Older
pub mod Right
pub mod Stages
pub mod Timed
pub mod Told
pub mod Undone
-- what only private contracts cite
pub mod Inner
