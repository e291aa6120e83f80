pub mod ByKey
pub mod Coded
pub mod Groups
pub mod Laws
pub mod Lawful
