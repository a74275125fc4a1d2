pub mod Meant
pub mod Numerals
pub mod Order
pub mod Pieces
pub mod Reading
