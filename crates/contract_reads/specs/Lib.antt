pub mod Known
pub mod Brands
pub mod Valued
pub mod Calls
pub use Rattle.rule_laws.specs as rule_laws
pub use Rattle.host_world.specs.world_laws
