-- What the contracts of this crate cite.
pub mod Causes
pub mod Faults
pub mod Files
pub mod Items
pub mod Lent
pub mod Lines
pub mod MemFiles
pub mod MemSink
pub mod Named
pub mod NextWords
pub mod Numbers
pub mod Sink
pub mod StdSink
pub mod Steps
pub mod Text
pub mod TextFaults
pub mod Words
