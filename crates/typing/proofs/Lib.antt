pub mod Usages
pub mod Steps
pub mod Fitting
pub mod Sound
pub mod Complete
pub mod Theorem
