-- What the contracts of this crate and of those above it cite.
pub mod Kinds
pub mod Lists
pub mod Noise
pub mod Scalar
pub mod TapeCalls
pub mod TapeParts
pub mod TapeText
pub mod Tapes
-- worked examples, for the functions of `worked` alone
pub mod Programs
-- what only private contracts cite
pub mod LineParts
