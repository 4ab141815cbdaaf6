pub mod Differences
pub mod Offices
pub mod Conserved
pub mod Reaching
