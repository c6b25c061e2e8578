pub mod Lanes
pub mod Polls
pub mod Questions
pub mod Votes
