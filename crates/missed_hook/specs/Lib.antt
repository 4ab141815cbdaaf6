pub mod Orderly
pub mod Outstanding
pub mod Passed
