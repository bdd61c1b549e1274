pub mod Row
pub mod Reading
pub mod Verdicts
pub mod Laws
pub use Rattle.fair_rows.specs.turn_rows
pub use Rattle.fair_rows.specs as fair_rows
