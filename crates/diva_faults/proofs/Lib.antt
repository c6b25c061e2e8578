pub mod Flipping
pub mod Laying
pub mod Legging
pub mod Spoiling
pub mod Worked
