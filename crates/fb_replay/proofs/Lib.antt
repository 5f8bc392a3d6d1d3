mod Each
mod Flat
mod Callees
mod FirstUnmet
mod Meeting
