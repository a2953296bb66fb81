pub mod Choice
pub mod Listing
pub mod Line
pub mod Conversation
pub mod Partial
pub mod Steps
pub mod Lawfulness
