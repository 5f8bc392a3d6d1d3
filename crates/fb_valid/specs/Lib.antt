pub mod Lines
pub mod Trees
pub mod Rules
pub mod Valid
pub mod Verdict
pub mod Forged
pub mod Laws
