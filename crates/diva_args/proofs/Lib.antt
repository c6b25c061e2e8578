-- The lemmas of this crate.
pub mod CommandLemmas
pub mod ReadLemmas
pub mod ValueLemmas
pub mod ConfigLemmas
pub mod PlainSteps
pub mod PlainFlags
pub mod PlainOptions
pub mod PlainEnd
pub mod PlainValues
pub mod PlainTaken
pub mod PlainLaw
