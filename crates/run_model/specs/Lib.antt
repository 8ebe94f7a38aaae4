pub mod Requests
pub mod MapFiles
pub mod PlayedScripts
pub mod Inputs
pub mod Jobs
pub mod Endings
pub mod Reads
pub mod Runs
