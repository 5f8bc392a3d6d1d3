mod ReadOn
mod Lines
mod Walks
mod Exact
mod Ends
