pub mod Runs
pub mod Records
pub mod Calls
pub mod Agreement
pub mod Views
pub mod Walk
pub mod ViewEquations
pub mod Sameness
