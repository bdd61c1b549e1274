-- What is left of the rules of issuers that make payments of payments, once the payments are read.
use Rattle.std.specs.Prelude.{ℕ, List, length, map, Result, Ok}
use Rattle.refusals.specs.amount_math.ValueView.{ValueView}
use Rattle.rules.specs.call_arguments.Amounts.{held_in, is_same}
use Rattle.rules.specs.call_arguments.Numbers.{first_repeated, least_failing}
use Rattle.refusals.specs.host_data.Values.{object_tree}
use Rattle.rules.specs.Outcomes.{Outcome}
use Rattle.rules.specs.Words.{next_payment}
use Rattle.rules.specs.Lists.{combined, least_other, next_payments, parted, values_of, with_value}
use Rattle.refusals.specs.host_data.Tree.{Tree}
use Rattle.refusals.specs.host_data.declared.data.ObjKind.TheVariants as kinds
use Rattle.rules.specs.call_arguments.Lists.{amounts_listed}
use Rattle.refusals.specs.Codes.{dead_payment, repeated_payment, wrong_amount, wrong_brand}
use Rattle.refusals.specs.Outcomes.{◌>>=◌, ◌>>◌, need, none_such}
use Rattle.refusals.specs.declared.codes.Refusal.{Refusal}
use Rattle.rules.specs.GivenPayments.{LivePayment, is_live_in}
use Rattle.rules.specs.value_tests.Sums.{whole_sum}
use Rattle.rules.specs.world_state.Rights.{kind_at}
use Rattle.rules.specs.world_state.Worlds.{State}

-- payments, by their numbers, are live ones of the brand, none twice; each test over all of them
-- before the next
unfoldable pub live_of : State → ℕ → List ℕ → Result (List LivePayment) Refusal
live_of w brand payments = do
  none_such (least_other w brand payments) wrong_brand
  none_such (least_failing (is_live_in w) payments) dead_payment
  none_such (first_repeated payments) repeated_payment
  Ok (map (with_value w) payments)

-- live payments go to the next one
unfoldable pub joined : State → ℕ → List LivePayment → Outcome
joined w brand given = do
  payment ← next_payment w
  Ok (object_tree kinds.Payment payment, combined brand payment given)

-- which is what is named for them together
unfoldable pub joined_as : State → ℕ → List LivePayment → Tree → Outcome
joined_as w brand given named = do
  total ← whole_sum (kind_at w.rights.out brand) (values_of given)
  held_in brand total 2 named
  joined w brand given

-- a payment goes in parts to the next ones
unfoldable pub apart : State → ℕ → ℕ → List ValueView → Outcome
apart w brand from parts = do
  payment ← next_payments w (length parts)
  Ok (parted brand from payment parts)

-- the parts are all of it
unfoldable pub in_parts : State → ℕ → LivePayment → List ValueView → Outcome
in_parts w brand given parts = do
  total ← whole_sum given.value.kind parts
  need (is_same given.value total) (wrong_amount given.value total)
  apart w brand given.number parts

-- and are the amounts that are listed
unfoldable pub in_listed : State → ℕ → LivePayment → List Tree → Outcome
in_listed w brand given items = do
  parts ← amounts_listed brand given.value.kind 2 items
  in_parts w brand given parts
