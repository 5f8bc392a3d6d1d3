pub mod Items
pub mod Levels
pub mod Expressions
pub mod Statements
pub mod Services
pub mod Spelled
pub mod Printed
