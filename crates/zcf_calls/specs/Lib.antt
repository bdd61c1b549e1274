pub mod Exits
pub mod IssuerParts
pub mod Requests
pub mod TableParts
