pub mod Values
pub mod Notices
pub mod Words
