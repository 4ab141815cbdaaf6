pub mod Division
pub mod Fences
pub mod Mentions
