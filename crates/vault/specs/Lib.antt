pub mod Memory
pub mod Asked
pub mod Forgetting
pub mod Drafts
pub mod Working
pub mod Taking
pub mod Together
pub mod Combinations
pub mod Splits
pub use Rattle.vault_model.specs.holders
pub use Rattle.seats.specs as seats
