pub mod NamedHours
