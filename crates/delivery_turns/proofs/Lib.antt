pub use Rattle.world_laws.proofs.promise_store
pub use Rattle.world_laws.proofs.vault_model
pub use Rattle.world_laws.proofs.turn_records
pub use Rattle.world_laws.proofs as world_laws
