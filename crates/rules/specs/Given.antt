-- Seats and records of amounts that a contract's functions give (Zoe; the order of the refusals is our own).
use Rattle.std.specs.Option.{option_map_or}
use Rattle.std.specs.Prelude.{ℕ, ◌==◌, ◌||◌, not, List, filter, Bool, false, Result, Ok}
use Rattle.call_arguments.specs.Arguments.{object_at, record_at}
use Rattle.call_arguments.specs.Numbers.{least}
use Rattle.call_arguments.specs.Records.{ShareData, brands_in, shares_in}
use Rattle.call_arguments.specs.host_data.Tree.{Tree}
use Rattle.call_arguments.specs.host_data.declared.data.ObjKind.TheVariants as kinds
use Rattle.call_arguments.specs.proposals.Shares.{amount_under}
use Rattle.call_arguments.specs.proposals.declared.allocations.Share.{Share}
use Rattle.call_arguments.specs.refusals.Codes.{wrong_brand, wrong_instance}
use Rattle.call_arguments.specs.refusals.Outcomes.{◌>>=◌, ◌>>◌, need, none_such}
use Rattle.call_arguments.specs.refusals.declared.codes.Refusal.{Refusal}
use Rattle.world_state.specs.Worlds.{State}
use Rattle.world_state.specs.actors.Tables.{instance_at}
use Rattle.world_state.specs.brands.declared.issuer_record.Issuer.{Issuer}
use Rattle.rules.specs.Proposals.{is_known, valued}
use Rattle.rules.specs.States.{is_open, seat_of}

-- ---- seats

-- an open seat of the instance stands at the place
unfoldable pub own_seat : State → ℕ → ℕ → List Tree → Result ℕ Refusal
own_seat w i place args = do
  seat ← object_at kinds.Zseat place args
  need ((seat_of w seat).instance == i) (wrong_instance seat)
  is_open w seat
  Ok seat

-- ---- brands

-- the brands that an instance keeps, by keyword
abbrev pub issuers_of : State → ℕ → List Issuer
issuers_of w i = (instance_at w.tables.instances i).issuers

-- shares have another brand under the keyword
abbrev pub is_other : List Share → ShareData → Bool
is_other shares r = option_map_or (λ a. not (a.brand == r.amount.brand)) (amount_under r.keyword shares) false

-- the brand isn't among the instance's, or the slot of the keyword has another
abbrev pub is_misfit : List Issuer → List Share → ShareData → Bool
is_misfit issuers slots r = not (is_known issuers r.amount.brand) || is_other slots r

-- ---- amounts

-- a record at the place, of amounts under keywords, none of which is a misfit; each test over all shares before
-- the next
unfoldable pub shares_at : (ShareData → Bool) → ℕ → List Tree → Result (List Share) Refusal
shares_at misfits place args = do
  given ← record_at place args
  read ← shares_in place given
  none_such (least (brands_in (filter misfits read))) wrong_brand
  valued read
