pub mod Printed
pub mod Replies
pub mod Sessions
