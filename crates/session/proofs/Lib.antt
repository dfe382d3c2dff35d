pub mod Correctness
