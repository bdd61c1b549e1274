pub mod Written
pub mod Changes
pub mod Whole
pub mod Order
pub mod Due
pub mod Cuts
pub mod Digits
pub mod Texts
