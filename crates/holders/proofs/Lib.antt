pub mod Stores
pub mod Lists
pub mod Books
