pub mod Batches
pub mod ByUser
pub mod Conversations
pub mod Entries
pub mod Groups
