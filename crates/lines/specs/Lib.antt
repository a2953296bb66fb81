pub mod Number
pub mod Token
pub mod Command
pub mod Reply
pub mod Heading
