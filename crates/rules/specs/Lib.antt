pub mod Calls
pub mod Ledger
pub mod Promise
