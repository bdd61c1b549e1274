-- What holds of each step of a host: what its turn names, moves, mints, withdraws and spends.
use Rattle.std.specs.Prelude.{◌<◌, ℕ, List, length, IfSome, Option}
use Rattle.fair_laws.specs.delivery_turns.Hosts.{HostState, Step}
use Rattle.fair_laws.specs.ertp_mint.BrandSupply.{supply_at}
use Rattle.fair_laws.specs.vault_model.Lists.{purse_at}
use Rattle.fair_laws.specs.vault_model.Tables.{content_held}
use Rattle.fair_laws.specs.world_state.amount_math.Content.{Content, count}
use Rattle.fair_laws.specs.world_state.holders.PaymentViews.{payment_view_at}
use Rattle.fair_laws.specs.world_state.turn_records.Printed.{printed}
use Rattle.fair_laws.specs.world_state.turn_rows.Turns.{Turn}
use Rattle.licence_laws.specs.Came.{runs_in}
use Rattle.licence_laws.specs.Minting.{IsCalledForTurn, ShowsMinting, ShowsWithdrawal}
use Rattle.licence_laws.specs.Movements.{AreMovedBy, MayMove, no_rows}
use Rattle.licence_laws.specs.Objects.{NamesWhatWasHanded}
use Rattle.licence_laws.specs.Spending.{IsSpentByNameTurn, ShowsSpending}

-- ---- what a step's turn names and moves

-- the instance whose function the step runs, where it runs one
abbrev pub runner : HostState → Step → Option ℕ
runner s step = runs_in s.world step.turn.delivery step.turn.reading

pub record IsLicensed (s : HostState) (step : Step) : Type 0 where
  -- a function names only what its instance kept, what came with the delivery, and the answers
  pub names : IfSome (runner s step) (NamesWhatWasHanded s.world step.next.world step.turn)
  -- each movement is by right of the call, the exit or the delivery that it is of
  pub moves :
      AreMovedBy (MayMove step.next.world (runner s step) step.turn.delivery step.turn.reading)
      (no_rows (length s.world.rights.payments)) step.turn.events

-- ---- what its printed rows show

-- what is out of a brand, what a purse has, and what a payment has
abbrev pub supply_of : HostState → ℕ → Content
supply_of s b = (supply_at s.world.rights.out b).outstanding.content

abbrev pub purse_of : HostState → ℕ → Content
purse_of s n = (purse_at s.world.rights.purses n).value.content

abbrev pub payment_of : HostState → ℕ → Content
payment_of s n = content_held (payment_view_at s.world.rights.payments n).held

abbrev pub printed_turn : Step → Turn
printed_turn step = printed step.turn

pub record IsCalledFor (s : HostState) (step : Step) : Type 0 where
  -- a brand of which more of an element is out after the step is minted, as the rows show it
  pub minted : (b : ℕ) (k : List ℕ) → count (supply_of s b) k < count (supply_of step.next b) k
      → ShowsMinting (printed_turn step) b
  -- a purse that has less of an element then is withdrawn from
  pub withdrawn : (n : ℕ) (k : List ℕ) → count (purse_of step.next n) k < count (purse_of s n) k
      → ShowsWithdrawal (printed_turn step) n
  -- each movement's row that comes from outside or from a purse stands in a turn that shows it
  pub moved : IsCalledForTurn (printed_turn step)

pub record IsSpentByName (s : HostState) (step : Step) : Type 0 where
  -- a payment that has less of an element after the step is named by its turn or a call
  pub spent : (n : ℕ) (k : List ℕ) → count (payment_of step.next n) k < count (payment_of s n) k
      → ShowsSpending (printed_turn step) n
  -- so is each of which a movement's row takes
  pub moved : IsSpentByNameTurn (printed_turn step)
