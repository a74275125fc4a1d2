pub mod Bounds
pub mod Bytes
pub mod Meaning
pub mod Postings
pub mod Rows
pub mod Reports
pub mod Texts
pub mod Words
