-- Tests that rules of several objects make, and numbers of what is made next.
use Rattle.std.specs.Prelude.{ℕ, ◌+◌, nat_lt, not, List, [], ◌∷◌, length, Bool, true, false, Option, Some, unwrap_or, Result, Ok, Err, if◌then◌else◌}
use Rattle.call_arguments.specs.Arguments.{arg}
use Rattle.call_arguments.specs.amount_math.ValueView.{ValueView}
use Rattle.call_arguments.specs.host_data.Tree.{Tree, is_null, pairs_of, text_of}
use Rattle.call_arguments.specs.host_text.Words.{is_keyword}
use Rattle.call_arguments.specs.refusals.Codes.{bad_keyword, closed, limit, no_method}
use Rattle.call_arguments.specs.refusals.Outcomes.{◌>>◌, need}
use Rattle.call_arguments.specs.refusals.declared.codes.Refusal.{Refusal}
use Rattle.rearrange.specs.ertp_mint.Stocks.{most_made}
use Rattle.rearrange.specs.rights_model.Table.{movement}
use Rattle.rearrange.specs.rights_model.declared.Holder.{Holder}
use Rattle.world_state.specs.Good.{open_slots}
use Rattle.world_state.specs.Worlds.{Effect, State, moves}
use Rattle.world_state.specs.actors.Tables.{instance_at}
use Rattle.world_state.specs.actors.declared.instance_store.instance.Standing.{Standing}
use Rattle.world_state.specs.actors.declared.instance_store.instance.Standing.TheVariants.{Accepting, Halted, Stopped}
use Rattle.rules.specs.Outcomes.{Outcome}

-- the target has no such method
abbrev pub without_method : List ℕ → Outcome
without_method m = Err (no_method m)

-- the number of the next object, of which so many were made and so many at most can be
unfoldable pub next_of : ℕ → ℕ → Result ℕ Refusal
next_of made most = do
  need (nat_lt made most) (limit most)
  Ok made

-- the number of the next payment; one is left for each slot of an open seat
unfoldable pub next_payment : State → Result ℕ Refusal
next_payment w = do
  need (nat_lt (length w.rights.payments + open_slots w.seats w.rights.slots) most_made) (limit most_made)
  Ok (length w.rights.payments)

-- one movement is made: of a brand, from one holder to another
abbrev pub one_move : ℕ → Holder → Holder → ValueView → List Effect
one_move brand from to value = moves (movement brand from to value ∷ []) ∷ []

abbrev pub has_halted : Standing → Bool
has_halted Halted = true
has_halted Accepting = false
has_halted Stopped = false

abbrev pub takes_offers : Standing → Bool
takes_offers Accepting = true
takes_offers Halted = false
takes_offers Stopped = false

abbrev pub standing_of : State → ℕ → Standing
standing_of w i = (instance_at w.tables.instances i).standing

-- an instance hasn't halted; it takes offers still
unfoldable pub runs : State → ℕ → Result (Unit {0}) Refusal
runs w i = need (not (has_halted (standing_of w i))) (closed i)

unfoldable pub is_offered_to : State → ℕ → Result (Unit {0}) Refusal
is_offered_to w i = need (takes_offers (standing_of w i)) (closed i)

-- ---- keywords

-- the text of data, which is empty where it is none
abbrev pub shown_text : Tree → List ℕ
shown_text t = unwrap_or (text_of t) []

-- a keyword; the refusal shows the text that was given
unfoldable pub keyword_at : ℕ → List Tree → Result (List ℕ) Refusal
keyword_at place args = do
  need (is_keyword (shown_text (arg place args))) (bad_keyword (shown_text (arg place args)))
  Ok (shown_text (arg place args))

-- ---- records

-- the fields of a record; null stands for one without fields
abbrev pub record_in : Tree → Option (List (List ℕ × Tree))
record_in t = if is_null t then Some [] else pairs_of t
