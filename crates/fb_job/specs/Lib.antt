pub mod Answers
pub mod Commands
pub mod Jobs
pub mod Limits
pub mod Names
pub mod Numbers
pub mod Options
