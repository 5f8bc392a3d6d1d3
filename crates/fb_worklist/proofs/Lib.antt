pub mod Sameness
pub mod Extensions
