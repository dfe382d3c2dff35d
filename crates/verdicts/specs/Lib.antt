pub mod Marks
pub mod Listings
