pub mod Fields
pub mod Kinds
pub mod Commands
pub mod Records
pub mod Scripts
pub mod Laws
