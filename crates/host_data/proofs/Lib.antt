pub mod Views
pub mod Nodes
pub mod ValueTrees
pub mod KeyedData
pub mod ReadLists
pub mod ValuesRead
pub use Rattle.amount_math.proofs as amount_math
pub use Rattle.host_text.proofs as host_text
