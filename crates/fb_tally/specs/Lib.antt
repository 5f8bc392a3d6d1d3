pub mod Decisions
pub mod Tallied
pub mod Told
pub mod Firsts
pub mod Owned
pub mod Owning
