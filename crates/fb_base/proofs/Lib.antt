pub mod Division
mod Given
pub mod KindLaws
pub mod Names
mod Parts
pub mod ProperLaws
mod Remainders
pub mod Results
pub mod TableLaws
mod Weights
