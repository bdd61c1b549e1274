pub mod Plainly
pub mod Steps
pub use Rattle.host_data.proofs.amount_math
pub use Rattle.host_data.proofs as host_data
