-- What is left of the rules of staging, once the seat and the record are read.
use Rattle.std.specs.Prelude.{ℕ, List, [], ◌∷◌, Result, Ok}
use Rattle.rules.specs.proposals.Gains.{with_gains}
use Rattle.rules.specs.proposals.Losses.{with_losses}
use Rattle.rules.specs.Outcomes.{Outcome}
use Rattle.rules.specs.Records.{allocation_tree}
use Rattle.rules.specs.States.{seat_of}
use Rattle.host_data.specs.Tree.{Tree, boolean}
use Rattle.rules.specs.rearrange.Slots.{can_give, can_take, is_safe}
use Rattle.rules.specs.proposals.declared.allocations.Share.{Share}
use Rattle.refusals.specs.Outcomes.{◌>>=◌, ◌>>◌}
use Rattle.refusals.specs.declared.codes.Refusal.{Refusal}
use Rattle.rules.specs.Given.{shares_at}
use Rattle.rules.specs.Zseat.{are_few, misfits_slot, misfits_staged, shares_now}
use Rattle.rules.specs.world_state.Worlds.{State, stage}

-- shares can be added to what is staged now
unfoldable pub can_add : List Share → List Share → Result (Unit {0}) Refusal
can_add now shares = do
  can_give now shares
  are_few (with_gains now shares)

-- shares are added to what is staged now, or taken from it
unfoldable pub staged_more : ℕ → List Share → List Share → Outcome
staged_more seat now shares = do
  can_add now shares
  Ok (allocation_tree shares, stage seat (with_gains now shares) ∷ [])

unfoldable pub staged_less : ℕ → List Share → List Share → Outcome
staged_less seat now shares = do
  can_take now shares
  are_few (with_losses now shares)
  Ok (allocation_tree shares, stage seat (with_losses now shares) ∷ [])

-- what is left of the calls once the seat is known to be open
unfoldable pub adding : State → ℕ → List Tree → Outcome
adding w seat args = do
  shares ← shares_at (misfits_staged w seat) 1 args
  staged_more seat (shares_now w seat) shares

unfoldable pub taking : State → ℕ → List Tree → Outcome
taking w seat args = do
  shares ← shares_at (misfits_staged w seat) 1 args
  staged_less seat (shares_now w seat) shares

unfoldable pub asking : State → ℕ → List Tree → Result Tree Refusal
asking w seat args = do
  shares ← shares_at (misfits_slot w seat) 1 args
  Ok (boolean (is_safe (seat_of w seat).proposal shares))
