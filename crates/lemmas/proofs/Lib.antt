pub mod Parts
pub mod ListEdits
