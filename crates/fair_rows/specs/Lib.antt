pub mod Values
pub mod Movements
pub mod Seats
pub mod ExitCauses
pub mod SoFar
pub mod Amounts
pub mod Rows
pub mod Turns
pub mod Strict
pub mod Steps
pub mod Acts
pub use Rattle.turn_rows.specs.amount_math
pub use Rattle.turn_rows.specs.host_text
pub use Rattle.turn_rows.specs.rights_model
pub use Rattle.turn_rows.specs as turn_rows
