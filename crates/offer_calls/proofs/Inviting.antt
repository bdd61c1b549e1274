-- In a good world the instance of an invitation was made.
use Rattle.std.proofs.Common.{ℕ, ◌<◌, length}
use Rattle.rules.specs.turn_stores.Details.{no_details}
use Rattle.rules.specs.Zoe.{inviting}
use Rattle.ertp_calls.proofs.world_laws.Lists.{all_read}
use Rattle.rules.specs.world_state.Good.{IsGoodWorld, IsInvitation}
use Rattle.rules.specs.world_state.Worlds.{State}

pub inviting_made : (w : State) → IsGoodWorld w → (n : ℕ) → n < length w.invitations → inviting w n < length w.tables.instances
inviting_made w good n made = (all_read (IsInvitation w) w.invitations n no_details good.invitations made).handler.made
