pub mod Lists
pub mod Steps
pub mod Values
pub mod Amounts
pub mod Acts
pub use Rattle.turn_rows.proofs.amount_math
pub use Rattle.turn_rows.proofs.rights_model
pub use Rattle.turn_rows.proofs as turn_rows
