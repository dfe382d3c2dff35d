pub mod Usages
pub mod Derivations
pub mod Judging
pub mod Verdicts
