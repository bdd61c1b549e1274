pub mod Lines
pub mod Heads
pub mod Good
pub mod Parsed
pub mod FirstBad
pub use Rattle.fair_rows.proofs.turn_rows
pub use Rattle.fair_rows.proofs as fair_rows
