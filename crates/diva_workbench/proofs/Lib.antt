-- The lemmas of this crate.
pub mod DrawRunning
pub mod InjectRunning
pub mod JudgeRunning
pub mod LabWorking
