pub mod Decimals
pub mod Words
pub mod Numbered
pub use Rattle.turn_rows.proofs as turn_rows
