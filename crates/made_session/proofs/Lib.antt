pub mod States
pub mod Clock
pub mod Growing
pub mod Streets
pub mod Doing
