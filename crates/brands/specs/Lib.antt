pub mod Brands
pub mod IssuerRecords
pub use Rattle.host_text.specs as host_text
