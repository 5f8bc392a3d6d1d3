pub mod Cuts
pub mod Floats
pub mod OneLine
pub mod ReadBack
pub mod Sending
pub mod WritableLines
pub mod Rests
pub mod Taking
