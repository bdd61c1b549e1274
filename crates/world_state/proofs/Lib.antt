pub use Rattle.vault_model.proofs.amount_math
pub use Rattle.vault_model.proofs.host_data
pub use Rattle.actors.proofs.jessie_grammar
pub use Rattle.actors.proofs.jessie_semantics
pub use Rattle.vault_model.proofs.lemmas
pub use Rattle.turn_records.proofs.promise_store
pub use Rattle.vault_model.proofs.proposals
pub use Rattle.turn_records.proofs.refusals
pub use Rattle.vault_model.proofs as vault_model
pub use Rattle.vault_model.proofs.rights_model
pub use Rattle.turn_records.proofs as turn_records
