pub mod Facts
pub mod JoinedStores
pub mod EffectSequences
pub mod InvitationMoves
pub use Rattle.register_effects.proofs.draft_reads
pub use Rattle.register_effects.proofs.escrow
pub use Rattle.world_laws.proofs.lemmas
pub use Rattle.world_laws.proofs as world_laws
pub use Rattle.register_effects.proofs.world_reads
pub use Rattle.register_effects.proofs.registers
