pub mod Places
pub mod Callees
pub mod FirstVariables
