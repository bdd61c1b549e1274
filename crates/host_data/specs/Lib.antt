pub mod Tree
pub mod View
pub mod Nodes
pub mod Values
pub mod Amounts
pub use Rattle.amount_math.specs as amount_math
pub use Rattle.host_text.specs as host_text
