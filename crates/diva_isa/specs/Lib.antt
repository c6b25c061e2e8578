-- The meaning of the instruction table.
pub mod State
pub mod End
pub mod Kind
pub mod Alu
pub mod Regs
pub mod Step
pub mod Trap
pub mod Plain
pub mod Undo
-- what only private contracts cite
pub mod Inner
