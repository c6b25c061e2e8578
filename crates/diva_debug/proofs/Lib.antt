pub mod Chains
pub mod Stepping
pub mod Advancing
pub mod Backing
pub mod Answering
pub mod Leading
pub mod Lending
