pub mod Codes
pub mod Outcomes
pub mod Plain
pub mod Told
pub use Rattle.host_data.specs.amount_math
pub use Rattle.host_data.specs as host_data
pub use Rattle.host_data.specs.host_text
