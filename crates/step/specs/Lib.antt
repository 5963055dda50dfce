pub mod Columns
pub mod Places
pub mod Crossings
