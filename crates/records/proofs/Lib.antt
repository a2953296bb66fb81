mod Framing
mod Meanings
mod InTurn
mod Walking
mod Entries
mod EntryLaw
