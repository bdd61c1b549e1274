pub mod Kinds
pub mod Causes
pub mod Turns
pub mod Editions
pub mod Rows
pub mod Texts
pub mod ReadBack
pub mod Order
pub mod Worked
pub mod Form
pub mod HostForms
pub use Rattle.rights_model.specs.amount_math
pub use Rattle.rights_model.specs.host_text
pub use Rattle.rights_model.specs as rights_model
