pub mod Plain
pub mod Feeds
pub mod Names
pub mod Read
pub mod Order
pub mod Worked
pub mod PlainRows
pub mod InForm
pub mod HostForms
pub mod Ranges
pub mod ByTurns
pub use Rattle.rights_model.proofs.amount_math
pub use Rattle.rights_model.proofs as rights_model
