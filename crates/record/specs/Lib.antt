pub mod Number
pub mod Format
pub mod Family
pub mod Kinds
pub mod Entries
pub mod Pages
pub mod Places
