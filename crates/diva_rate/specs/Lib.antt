pub mod Cells
pub mod Counts
pub mod Extra
pub mod Groups
pub mod Injections
pub mod Kinds
pub mod Latencies
pub mod Lines
pub mod Names
pub mod Rates
pub mod Shares
pub mod Text
-- what only private contracts cite
pub mod Grouping
pub mod Inner
