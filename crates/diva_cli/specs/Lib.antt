-- What the contracts of this crate cite.
pub mod Changes
pub mod Lanes
pub mod Lines
pub mod Wanted
pub mod Driven
pub mod Sessions
pub mod Cuts
pub mod Runs
pub mod TapeTexts
pub mod Replies
pub mod DebugTexts
pub mod ImageTexts
pub mod SoakTexts
pub mod DuoTexts
pub mod CampaignTexts
pub mod Texts
pub mod Watched
pub mod Ready
pub mod Program
pub mod Sure
pub mod Determined
-- what only private contracts cite
pub mod Parts
pub mod Tasks
