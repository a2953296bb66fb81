mod Conversations
pub mod Fronts
mod Short
mod OneReply
mod Refusals
