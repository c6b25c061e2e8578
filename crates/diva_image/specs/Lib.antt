-- What the contracts of this crate cite, in the order in which it is best read.
pub mod Layout
pub mod Header
pub mod Segments
pub mod Images
pub mod Elf
pub mod ImageLayout
pub mod Migrated
pub mod Programs
-- what only private contracts cite
pub mod Inner
