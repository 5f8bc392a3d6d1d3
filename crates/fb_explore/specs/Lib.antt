pub mod Puts
pub mod Ends
pub mod Explored
pub mod Kept
pub mod Recording
pub mod Tallies
pub mod Turns
pub mod Below
