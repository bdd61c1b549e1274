pub mod TurnTexts
pub mod Drains
pub mod LineRuns
pub mod RunTexts
pub mod InForm
pub mod Licences
pub mod Limits
pub mod Statuses
pub use Rattle.host_turns.proofs.contract_texts as contract_texts
pub use Rattle.run_laws.proofs.delivery_laws
pub use Rattle.run_laws.proofs.fair_laws
pub use Rattle.run_laws.proofs.rule_laws
pub use Rattle.run_laws.proofs as run_laws
