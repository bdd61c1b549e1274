pub mod Forest
pub mod Changes
pub mod Cascade
pub mod Order
pub mod Alike
pub mod Whole
