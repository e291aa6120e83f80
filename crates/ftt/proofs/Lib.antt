mod Searches
pub mod Soundness
pub mod Steps
