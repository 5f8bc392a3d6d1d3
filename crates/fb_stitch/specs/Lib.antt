pub mod Sources
pub mod Stitched
pub mod Finding
pub mod Derivations
