mod Driven
mod Turned
