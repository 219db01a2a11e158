pub mod Running
pub mod Rosters
