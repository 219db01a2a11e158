pub mod Rings
pub mod Stacks
pub mod Rows
pub mod Sets
pub mod Shares
pub mod Values
pub mod Lawful
pub mod ByMake
