-- What the contracts of this crate cite.
pub mod Command
pub mod Fault
pub mod Line
pub mod Options
pub mod Plain
pub mod Rows
pub mod Table
pub mod Values
