pub mod Given
pub mod Worths
pub mod AmountMath
pub mod Play
pub mod Actions
pub mod Rules
pub mod Keeping
pub mod Hosts
pub mod Form
pub mod Runs
pub mod Charges
pub mod Naming
pub use Rattle.host_data.specs as host_data
pub use Rattle.refusals.specs as refusals
pub use Rattle.jessie_values.specs.jessie_grammar
pub use Rattle.jessie_values.specs as jessie_values
