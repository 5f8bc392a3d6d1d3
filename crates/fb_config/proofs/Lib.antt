pub mod Lists
pub mod Reading
pub mod FitLaws
pub mod Grouping
