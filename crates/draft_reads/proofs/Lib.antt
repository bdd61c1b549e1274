pub mod Staged
pub mod Undoing
pub mod WorldLists
pub use Rattle.world_laws.proofs.lemmas
pub use Rattle.world_laws.proofs.vault_model
pub use Rattle.vault.proofs as vault
pub use Rattle.world_laws.proofs as world_laws
