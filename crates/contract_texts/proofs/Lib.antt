pub mod Tokens
pub mod Langs
pub mod Lists
pub mod Constants
pub mod Written
pub mod Modules
