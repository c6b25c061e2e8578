-- What the contracts of this crate cite.
pub mod DiskSource
pub mod KeptWords
pub mod MemSource
pub mod NoSource
pub mod Pieces
pub mod Scanned
pub mod Source
pub mod SourceLines
