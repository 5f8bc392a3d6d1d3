mod Commands
mod Taking
mod FirstWords
mod Numbers
mod Limits
