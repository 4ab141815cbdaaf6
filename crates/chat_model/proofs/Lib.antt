pub mod Exact
pub mod Blocks
pub mod Digits
pub mod Keys
pub mod OnceEach
pub mod PlaceLemmas
pub mod Rows
