pub mod SlotChanges
pub mod MintParts
pub mod EscrowParts
pub mod PaymentParts
pub use Rattle.contract_reads.specs as contract_reads
pub use Rattle.ertp_calls.specs.call_outcomes
pub use Rattle.ertp_calls.specs.host_world
