pub mod Places
pub mod Meanings
pub mod Sources
pub mod Laws
pub mod Weights
