pub mod ParityCalls
pub mod ShortenedCalls
