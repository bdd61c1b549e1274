pub mod Names
pub use Rattle.turn_rows.specs as turn_rows
pub use Rattle.host_text.specs as host_text
