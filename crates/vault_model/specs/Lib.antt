pub mod Flows
pub mod Seats
pub mod Lists
pub mod Tables
pub mod Backwards
pub mod Openings
pub use Rattle.rights_model.specs.amount_math
pub use Rattle.holders.specs.ertp_mint
pub use Rattle.holders.specs as holders
pub use Rattle.proposals.specs.host_data
pub use Rattle.rights_model.specs.host_text
pub use Rattle.lemmas.specs as lemmas
pub use Rattle.proposals.specs as proposals
pub use Rattle.rights_model.specs as rights_model
