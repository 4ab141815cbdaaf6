pub mod Kept
pub mod Memory
pub use Rattle.chat_model.specs.Counts
pub use Rattle.chat_model.specs.Rows
