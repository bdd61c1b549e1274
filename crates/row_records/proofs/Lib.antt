pub use Rattle.journal_rows.proofs.fair_rows
pub use Rattle.journal_rows.proofs as journal_rows
pub use Rattle.journal_rows.proofs.turn_rows
