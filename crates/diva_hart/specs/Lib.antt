-- What the contracts of this crate and of those above it cite.
pub mod HartArch
pub mod Start
pub mod UnderWay
-- what only private contracts cite
pub mod Inner
