-- The definitions that the contracts of this crate cite.
-- the parts of a word and its immediates
pub mod Fields
-- the instruction table both ways, and which instructions are valid
pub mod Table
-- what only private contracts cite
pub mod Inner
