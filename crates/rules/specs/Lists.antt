-- Lists of payments: those that a call names, and those that a call makes.
use Rattle.std.specs.Prelude.{ℕ, suc, ◌+◌, ◌==◌, nat_le, List, [], ◌∷◌, length, map, Option, Result, Ok}
use Rattle.call_arguments.specs.Arguments.{list_at}
use Rattle.call_arguments.specs.Lists.{objects_in}
use Rattle.call_arguments.specs.Numbers.{first_repeated, least_failing}
use Rattle.call_arguments.specs.amount_math.ValueView.{ValueView}
use Rattle.call_arguments.specs.host_data.Tree.{Tree, array}
use Rattle.call_arguments.specs.host_data.Values.{object_tree}
use Rattle.call_arguments.specs.host_data.View.{items_of}
use Rattle.call_arguments.specs.host_data.declared.data.ObjKind.TheVariants as kinds
use Rattle.call_arguments.specs.refusals.Codes.{dead_payment, limit, repeated_payment, wrong_brand}
use Rattle.call_arguments.specs.refusals.Outcomes.{◌>>=◌, ◌>>◌, need, none_such}
use Rattle.call_arguments.specs.refusals.declared.codes.Refusal.{Refusal}
use Rattle.rearrange.specs.ertp_mint.Stocks.{most_made}
use Rattle.rearrange.specs.rights_model.Table.{movement}
use Rattle.rearrange.specs.rights_model.declared.Holder.TheVariants.{Payment}
use Rattle.rearrange.specs.rights_model.declared.Movement.{Movement}
use Rattle.world_state.specs.Good.{open_slots}
use Rattle.world_state.specs.Worlds.{Effect, State, empty_payment, moves}
use Rattle.rules.specs.GivenPayments.{LivePayment, held_by, is_live_in, payment_view_of}

-- ---- payments that are named

-- the least brand, other than this, that one of the payments is of
unfoldable pub least_other : State → ℕ → List ℕ → Option ℕ
least_other w brand payments = least_failing (λ b. b == brand) (map (λ p. (payment_view_of w p).brand) payments)

-- a payment with what it has
abbrev pub with_value : State → ℕ → LivePayment
with_value w payment = record { number = payment; value = held_by w payment }

abbrev pub values_of : List LivePayment → List ValueView
values_of payments = map (λ p. p.value) payments

-- live payments of the brand in an array, none twice; each test over all of them before the next
unfoldable pub live_listed : State → ℕ → ℕ → List Tree → Result (List LivePayment) Refusal
live_listed w brand place args = do
  items ← list_at place args
  payments ← objects_in kinds.Payment place items
  none_such (least_other w brand payments) wrong_brand
  none_such (least_failing (is_live_in w) payments) dead_payment
  none_such (first_repeated payments) repeated_payment
  Ok (map (with_value w) payments)

-- ---- payments that are made

-- the number of the first of so many next payments; one is left for each slot of an open seat
unfoldable pub next_payments : State → ℕ → Result ℕ Refusal
next_payments w n = do
  need (nat_le (length w.rights.payments + open_slots w.seats w.rights.slots + n) most_made) (limit most_made)
  Ok (length w.rights.payments)

-- each payment goes whole to one, in order
abbrev pub moves_to : ℕ → ℕ → List LivePayment → List Movement
moves_to brand to [] = []
moves_to brand to (p ∷ ps) = movement brand (Payment p.number) (Payment to) p.value ∷ moves_to brand to ps

-- one payment of all of them: where there are none, of nothing, without a movement
abbrev pub combined : ℕ → ℕ → List LivePayment → List Effect
combined brand to [] = empty_payment brand ∷ []
combined brand to (p ∷ ps) = moves (moves_to brand to (p ∷ ps)) ∷ []

-- each part of a payment goes to a payment of its own, of which the first has the number
abbrev pub moves_apart : ℕ → ℕ → ℕ → List ValueView → List Movement
moves_apart brand from n [] = []
moves_apart brand from n (v ∷ vs) = movement brand (Payment from) (Payment n) v ∷ moves_apart brand from (suc n) vs

abbrev pub payments_from : ℕ → List ValueView → List Tree
payments_from n [] = []
payments_from n (v ∷ vs) = object_tree kinds.Payment n ∷ payments_from (suc n) vs

-- the array of payments that a payment is split into, one for each part in order, and the effects
abbrev pub parted : ℕ → ℕ → ℕ → List ValueView → Tree × List Effect
parted brand from n parts = (array (items_of (payments_from n parts)), moves (moves_apart brand from n parts) ∷ [])
