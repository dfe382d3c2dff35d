pub mod Sessions
pub mod Meanings
