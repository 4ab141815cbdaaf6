pub mod Judged
pub mod Pushes
