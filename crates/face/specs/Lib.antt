pub mod Quantities
pub mod Checks
pub mod Replies
