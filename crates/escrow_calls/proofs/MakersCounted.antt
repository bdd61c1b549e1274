-- As many makers as the world has.
use Rattle.std.proofs.Common.{◌≡◌, List, length}
use Rattle.ertp_calls.specs.registers.Makers.{makers_of}
use Rattle.ertp_calls.specs.registers.declared.brand_makers.Maker.{Maker}
use Rattle.ertp_calls.proofs.world_laws.Lists.{length_map}

pub makers_counted : (ms : List Maker) → length (makers_of ms) ≡ length ms
makers_counted ms = length_map _ ms
