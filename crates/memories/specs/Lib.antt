pub mod Listed
pub mod Flat
