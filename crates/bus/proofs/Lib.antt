pub mod Durations
pub mod Lowest
pub mod Made
pub mod Rising
pub mod Rounding
pub mod Triggers
pub mod Words
