pub mod Keys
pub mod Calls
pub mod Children
pub mod Books
pub mod Kept
pub mod Laws
