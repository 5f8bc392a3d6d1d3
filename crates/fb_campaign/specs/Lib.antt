pub mod Runs
pub mod Plans
pub mod Reports
pub mod Valid
pub mod Truth
pub mod Campaign
pub mod Waiting
pub mod Example
