-- where texts are cut
pub mod Cutting
-- the labels that a text begins with
pub mod Colons
-- texts between commas
pub mod Commas
-- operands and texts that run out
pub mod Shapes
-- the map of the labels as a list
pub mod Places
-- steps that stop
pub mod Stopping
-- the end of a source
pub mod Ending
-- what operands that were read keep
pub mod Reading
-- instructions of operands that were read have words
pub mod Valid
-- hex digits of a number of 20 bits
pub mod Hex
-- names among others
pub mod Naming
