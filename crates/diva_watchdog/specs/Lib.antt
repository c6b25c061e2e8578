-- What the contracts of this crate and of those above it cite.
pub mod Solo
pub mod Watchdog
