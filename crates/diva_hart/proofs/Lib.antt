-- What follows from the definitions.
pub mod Beginning
pub mod Dues
pub mod Telling
pub mod Fronts
pub mod Ports
pub mod Undoing
