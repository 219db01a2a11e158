pub mod Lists
pub mod Rights
