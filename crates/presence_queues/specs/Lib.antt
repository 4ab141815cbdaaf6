pub mod Fields
pub mod Hub
pub mod Law
pub mod Steps
