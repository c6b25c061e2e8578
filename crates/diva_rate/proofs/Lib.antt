-- The lemmas of this crate.
mod Bounding
mod Cutting
mod Grouping
mod Putting
mod Ranking
mod Scanning
