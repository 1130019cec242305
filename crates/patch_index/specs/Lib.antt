pub mod Index
pub mod Live
pub mod Reporting
pub mod Said
pub mod Orders
pub mod Keys
pub mod Sums
