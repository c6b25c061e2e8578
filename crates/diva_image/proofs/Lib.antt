-- the header that is written is read again
pub mod Headers
-- what is written in version 1 is read again
pub mod Again
-- the rules of an image
pub mod Rules
-- the segments of a file
pub mod Tables
-- the stretches of blocks that are not of zeros alone
pub mod Stretches
-- what the segments of an image leave out
pub mod Shown
-- what is written in version 2 begins again
pub mod Beginning
-- the program headers of an executable
pub mod Loads
