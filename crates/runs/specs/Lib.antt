pub mod Book
pub mod Law
pub mod Transport
pub mod Steps
