pub mod Parity
pub mod Shortened
pub mod ParityLaws
pub mod ShortenedLaws
