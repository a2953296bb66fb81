pub mod Places
pub mod Transitions
pub mod SpellingPlaces
