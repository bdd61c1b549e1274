pub mod Amounts
pub mod Arguments
pub mod Numbers
pub mod Lists
pub mod Records
pub mod Keywords
pub mod Exits
pub use Rattle.refusals.specs.amount_math
pub use Rattle.refusals.specs.host_data
pub use Rattle.refusals.specs.host_text
pub use Rattle.proposals.specs as proposals
pub use Rattle.refusals.specs as refusals
