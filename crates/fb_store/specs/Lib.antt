pub mod Ending
pub mod Following
pub mod Tables
pub mod Trees
pub mod Growth
pub mod Walks
