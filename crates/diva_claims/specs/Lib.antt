-- What the contracts of this crate cite.
pub mod Calls
pub mod Found
pub mod Judged
pub mod Said
pub mod Wrong
