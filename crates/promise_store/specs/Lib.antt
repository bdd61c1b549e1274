pub mod Nodes
pub mod Linked
pub mod Cascade
pub mod Steps
pub mod Kept
pub mod Undone
pub mod States
pub mod Turns
pub mod Whole
pub mod Views
pub use Rattle.host_data.specs as host_data
