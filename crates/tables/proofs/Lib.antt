pub mod Finding
pub mod Memory
pub mod Changes
mod Outcomes
mod Fronts
mod Weighed
