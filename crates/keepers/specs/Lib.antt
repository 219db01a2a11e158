pub mod Laws
pub mod Meanings
pub mod Orders
pub mod Rings
pub mod Rows
pub mod Sets
pub mod Shares
pub mod Stacks
