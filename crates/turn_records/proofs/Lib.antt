pub mod Fields
pub mod Form
pub mod Depth
pub mod Values
pub mod Trees
pub mod Parts
pub mod Ordered
pub mod Nested
pub mod InForm
pub mod Ending
pub mod Placed
pub use Rattle.refusals.proofs.host_data
pub use Rattle.promise_store.proofs as promise_store
pub use Rattle.proposals.proofs as proposals
pub use Rattle.refusals.proofs as refusals
