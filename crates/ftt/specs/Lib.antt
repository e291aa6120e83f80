pub mod Held
pub mod Judged
pub mod Questions
pub mod Told
