pub mod Refusals
pub mod Keywords
pub mod Tokens
