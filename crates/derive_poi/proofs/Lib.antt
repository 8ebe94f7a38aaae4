mod EachOnce
mod Found
