pub mod Callees
pub mod ReplayText
pub mod Replays
