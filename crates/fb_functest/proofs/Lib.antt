pub mod Lawful
pub mod Outcomes
pub mod Items
pub mod OneReading
pub mod CampaignLines
pub mod LinesHad
pub mod Truths
pub mod Covering
