-- What the contracts of this crate cite.
-- the image of a source, or its first fault
pub mod Sources
-- how a line is cut
pub mod Texts
-- registers, numbers and places
pub mod Operands
-- mnemonics and the operands that they take
pub mod Mnemonics
-- the labels and the statement of a line
pub mod Statements
-- pass 1: where labels and statements stand
pub mod Laying
-- pass 2: what statements lay
pub mod Building
-- the listing of an image
pub mod Listing
-- the numbers of the kinds of faults
pub mod Kinds
-- labels and where they stand
pub mod Labels
-- what the calls give where memory does not run out
-- what the operands of a statement that was read can be
-- what only private contracts cite
pub mod Reads
pub mod Inner
