pub mod Stream
pub mod Sender
pub mod Speller
pub mod Feed
