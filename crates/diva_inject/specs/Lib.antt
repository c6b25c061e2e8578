pub mod Lines
pub mod Models
pub mod Numbers
pub mod Parts
pub mod Plans
