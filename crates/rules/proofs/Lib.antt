pub use Rattle.call_arguments.proofs as call_arguments
pub use Rattle.call_arguments.proofs.host_data
pub use Rattle.world_state.proofs.jessie_grammar
pub use Rattle.world_state.proofs.jessie_semantics
pub use Rattle.rearrange.proofs.lemmas
pub use Rattle.call_arguments.proofs.proposals
pub use Rattle.rearrange.proofs as rearrange
pub use Rattle.rearrange.proofs.value_tests
