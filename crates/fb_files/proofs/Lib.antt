pub mod Growing
pub mod HeldFiles
pub mod WholeSteps
