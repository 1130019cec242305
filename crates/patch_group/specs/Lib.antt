pub mod Asks
pub mod Promise
pub mod Refusals
pub mod Records
pub mod Pending
pub mod Runs
pub mod Syncing
pub mod Renewing
