pub mod Sound
pub mod Chains
pub mod Clearing
pub mod Growth
