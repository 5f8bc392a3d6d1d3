pub mod Answers
pub mod Keys
pub mod Refusals
pub mod Shapes
