pub mod Bits
pub mod Addresses
pub mod Permissions
pub mod Entries
pub mod Shadow
