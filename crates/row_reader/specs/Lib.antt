pub mod Amounts
pub mod Events
pub mod Members
pub mod Reads
pub use Rattle.row_records.specs as row_records
