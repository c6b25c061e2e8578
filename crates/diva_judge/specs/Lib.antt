-- What the contracts of this crate cite.
pub mod Inner
pub mod Judgement
pub mod Judging
pub mod Logs
pub mod Texts
