pub mod Frames
pub mod Refusals
pub mod Rows
pub mod Triggers
