pub mod Runs
pub mod Numbers
pub mod Puts
