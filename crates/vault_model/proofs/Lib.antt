pub mod SlotShares
pub mod FlowLaws
pub mod Undone
pub mod Agreeing
pub mod Sound
pub use Rattle.rights_model.proofs.amount_math
pub use Rattle.proposals.proofs.host_data
pub use Rattle.lemmas.proofs as lemmas
pub use Rattle.proposals.proofs as proposals
pub use Rattle.rights_model.proofs as rights_model
