mod Barking
mod Finding
mod Handing
pub mod Judging
mod Masking
mod Placing
mod Righting
mod Saying
mod Telling
mod Waiting
pub mod Wronging
