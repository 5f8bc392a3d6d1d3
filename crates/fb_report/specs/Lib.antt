pub mod Bytes
pub mod Lines
pub mod Names
pub mod Ranges
pub mod Sending
pub mod Trees
pub mod Writable
