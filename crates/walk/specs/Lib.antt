pub mod Aborts
pub mod Sights
pub mod Views
pub mod Walks
pub mod Laws
pub mod Leads
