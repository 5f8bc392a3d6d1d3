pub mod Deciding
pub mod Fitting
pub mod Scripts
pub mod NewRecords
pub mod SpelledTrees
