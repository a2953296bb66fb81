pub mod Numbers
pub mod Tokens
pub mod Readings
pub mod Commands
pub mod Replies
pub mod FirstLines
