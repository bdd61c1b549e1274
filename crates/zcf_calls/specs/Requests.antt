-- Parts of the rules by which an instance opens and asks for something.
use Rattle.std.specs.Prelude.{ℕ, ◌+◌, ◌-◌, ◌^◌, nat_le, List, length, Result, Ok}
use Rattle.rules.specs.call_arguments.Arguments.{function_at, number_at, text_at}
use Rattle.rules.specs.Words.{next_of, next_payment}
use Rattle.rules.specs.ertp_mint.Stocks.{most_made}
use Rattle.host_data.specs.Tree.{Tree}
use Rattle.refusals.specs.Codes.{limit}
use Rattle.refusals.specs.Outcomes.{◌>>=◌, ◌>>◌, need}
use Rattle.refusals.specs.declared.codes.Refusal.{Refusal}
use Rattle.rules.specs.world_state.Worlds.{State, promises_made}

-- what an invitation is asked with
unfoldable pub handler_and_description : List Tree → Result (List ℕ × List ℕ) Refusal
handler_and_description args = do
  handler ← function_at 1 args
  description ← text_at 1 256 2 args
  Ok (handler, description)

-- the payment that the next invitation is
unfoldable pub next_invitation : State → Result ℕ Refusal
next_invitation w = do
  _ ← next_of (length w.invitations) most_made
  next_payment w

-- the seat that is opened next, with two promises
unfoldable pub next_seat : State → Result ℕ Refusal
next_seat w = do
  seat ← next_of (length w.seats) most_made
  need (nat_le (promises_made w + 2) most_made) (limit most_made)
  Ok seat

-- what a wakeup is asked with
unfoldable pub time_and_function : List Tree → Result (ℕ × List ℕ) Refusal
time_and_function args = do
  time ← number_at 0 (2 ^ 63 - 1) 2 args
  function ← function_at 3 args
  Ok (time, function)
