pub mod Laws
pub mod Verdicts
pub mod Staging
pub mod Judged
pub mod Counting
pub mod Driving
mod Asking
