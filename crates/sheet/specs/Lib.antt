pub mod Waters
pub mod Ghosts
pub mod Tables
