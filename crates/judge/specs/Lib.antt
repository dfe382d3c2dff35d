pub mod Newest
pub mod Meaning
pub mod Progress
pub mod Programs
