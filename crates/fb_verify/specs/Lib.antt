pub mod Reading
pub mod Standing
pub mod Taking
pub mod Ticks
pub mod Verdicts
