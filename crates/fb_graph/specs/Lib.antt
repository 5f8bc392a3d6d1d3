pub mod Graph
pub mod Chain
pub mod Walk
pub mod Cycle
pub mod Reverse
pub mod Distances
pub mod Levels
pub mod FirstCycle
