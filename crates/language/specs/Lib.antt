pub mod Scopes
pub mod Tables
pub mod Reading
pub mod Growth
pub mod Readers
