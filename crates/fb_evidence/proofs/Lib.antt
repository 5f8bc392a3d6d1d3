pub mod Each
pub mod Fits
pub mod Scripting
pub mod Known
pub mod Methods
pub mod SpelledRuns
