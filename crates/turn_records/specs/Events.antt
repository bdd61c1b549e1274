-- What is answered, and what happens in a turn.
use Rattle.std.specs.Prelude.{ℕ, List, [], ◌∷◌, Option}
use Rattle.std.specs.List.{flat_map}
use Rattle.refusals.specs.host_data.Tree.{Tree}
use Rattle.refusals.specs.host_data.declared.data.Obj.{Obj}
use Rattle.promise_store.specs.States.{SettlementView}
use Rattle.proposals.specs.declared.offers.Proposal.{Proposal}
use Rattle.refusals.specs.declared.codes.Refusal.{Refusal}
use Rattle.turn_rows.specs.rights_model.declared.Movement.{Movement}
use Rattle.turn_rows.specs.Causes.{Cause}
use Rattle.turn_rows.specs.Kinds.{How}
use Rattle.turn_rows.specs.Turns.{Payout}

-- what a turn, or the host's part of a call, comes to: an answer, a refusal, something thrown, or the meter that was spent
pub data Answer : Type 0 where
  given : Tree → Answer
  refused : Refusal → Answer
  threw : Tree → Answer
  spent : ℕ → Answer

-- a contract's call of the host: how, on what (a facet is made on nothing), and what was answered
pub record Call : Type 0 where
  pub how : How
  pub on : Option Obj
  pub method : List ℕ
  pub arguments : List Tree
  pub answer : Answer

-- a seat was opened for a proposal
pub record Opening : Type 0 where
  pub seat : ℕ
  pub instance : ℕ
  pub proposal : Proposal

-- a seat was left; the payments stand in the order of its slots
pub record Leaving : Type 0 where
  pub seat : ℕ
  pub cause : Cause
  pub payouts : List Payout

pub data Event : Type 0 where
  called : Call → Event
  opened : Opening → Event
  moved : Movement → Event
  exited : Leaving → Event
  settled : ℕ → SettlementView → Event

-- the movements among events, in order
abbrev pub move_in : Event → List Movement
move_in (moved m) = m ∷ []
move_in _ = []

abbrev pub moves_in : List Event → List Movement
moves_in es = flat_map move_in es
