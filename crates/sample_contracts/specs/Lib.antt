pub mod Samples
pub mod Demo
pub mod Made
pub use Rattle.turn_rows.specs as turn_rows
