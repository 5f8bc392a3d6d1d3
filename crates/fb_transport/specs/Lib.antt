pub mod Sources
pub mod Requests
