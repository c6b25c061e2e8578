-- What the contracts of this crate cite.
pub mod Files
pub mod Texts
