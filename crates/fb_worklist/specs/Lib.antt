pub mod Worklists
