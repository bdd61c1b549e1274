pub mod Places
pub mod Changes
pub mod Undone
pub mod Listed
pub mod Changed
