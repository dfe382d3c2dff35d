pub mod Scan
pub mod Decimals
pub mod Put
