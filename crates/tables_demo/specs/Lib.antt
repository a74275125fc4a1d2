pub mod Bytes
pub mod Orders
pub mod Rows
pub mod Texts
pub mod Spending
