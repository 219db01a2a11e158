pub mod Enrolment
pub mod States
pub mod Setups
pub mod Starts
pub mod Turns
pub mod Reports
