pub mod Scopes
pub mod Questions
pub mod Reading
pub mod Applying
pub mod Deciding
