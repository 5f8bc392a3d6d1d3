pub mod Later
pub mod Numerals
