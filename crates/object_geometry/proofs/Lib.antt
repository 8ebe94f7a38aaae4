pub mod Derived
mod Located
mod Closed
mod Places
mod NextRule
