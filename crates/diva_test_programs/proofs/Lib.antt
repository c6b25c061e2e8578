-- What follows from the definitions.
mod Registers
