pub mod Rules
pub mod Kept
pub mod Judged
pub mod Taken
pub mod Concluded
pub mod Standing
pub mod Laws
