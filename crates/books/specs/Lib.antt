pub mod Intervals
pub mod Ledgers
pub mod Bytes
pub mod Tidy
