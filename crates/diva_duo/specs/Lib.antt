-- What the contracts of this crate and of those above it cite.
pub mod Rules
pub mod Harts
pub mod Duo
pub mod Which
pub mod Shown
pub mod Between
pub mod Headline
pub mod Turns
-- a worked example, for the function of `worked` alone
pub mod Programs
-- what only private contracts cite
pub mod Inner
