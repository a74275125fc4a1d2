pub mod Big
pub mod Fields
pub mod Layouts
pub mod FamilyLaws
pub mod Registers
pub mod EntryLaws
pub mod PageLaws
pub mod PlaceLaws
