pub mod Joined
pub mod Feeding
pub mod Counts
pub mod Sending
pub mod Spelling
pub mod OneSpelling
