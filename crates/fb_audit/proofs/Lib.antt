mod Lines
mod Judging
mod Taking
mod Above
mod Going
mod Concluding
mod StandingFor
mod Validity
