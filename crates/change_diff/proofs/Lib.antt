mod Joining
mod Differing
mod Untagged
mod Wholes
mod Writing
