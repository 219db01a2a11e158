pub mod Cases
pub mod Landing
pub mod Leading
pub mod Sights
