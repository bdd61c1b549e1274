-- What an offer comes to once its invitation and its proposal were read, and once its payments were too.
use Rattle.std.specs.Prelude.{ℕ, List, [], ◌∷◌, length, Ok}
use Rattle.call_arguments.specs.Arguments.{arg}
use Rattle.refusals.specs.host_data.Values.{object_tree}
use Rattle.rules.specs.Outcomes.{Outcome}
use Rattle.refusals.specs.host_data.Tree.{Tree}
use Rattle.refusals.specs.host_data.declared.data.ObjKind.TheVariants as kinds
use Rattle.rules.specs.proposals.declared.offers.Proposal.{Proposal}
use Rattle.refusals.specs.Outcomes.{◌>>=◌, ◌>>◌}
use Rattle.rules.specs.Zoe.{Invited, has_room, offering, paid}
use Rattle.rules.specs.Proposals.{Proposed}
use Rattle.rules.specs.world_state.Worlds as worlds
use Rattle.rules.specs.world_state.Worlds.{State}

-- the seat is opened, if there is room for it
unfoldable pub opened : State → Invited → Proposal → List ℕ → Tree → Outcome
opened w by proposal payments arguments = do
  has_room w proposal
  Ok (object_tree kinds.Seat (length w.seats), worlds.offer (offering w by proposal payments arguments) ∷ [])

-- what is given is paid for it
unfoldable pub paid_for : State → Invited → Proposed → List Tree → Outcome
paid_for w by read args = do
  payments ← paid w by.payment read.proposal.give read.payments
  opened w by read.proposal payments (arg 4 args)
