pub mod Kinds
pub mod Lines
pub mod Readings
pub mod Listings
