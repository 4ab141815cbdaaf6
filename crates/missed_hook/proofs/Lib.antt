pub mod Ascents
pub mod OrderlyLists
pub mod Taking
pub mod Waiting
