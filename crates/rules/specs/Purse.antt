-- Purses (ERTP).
use Rattle.std.specs.Prelude.{ℕ, List, Result, Ok, if◌then◌else◌, codes}
use Rattle.std.specs.Str.{bytes_eq}
use Rattle.call_arguments.specs.Amounts.{amount_in, held_in}
use Rattle.call_arguments.specs.Arguments.{arg}
use Rattle.call_arguments.specs.amount_math.declared.Amount.{Amount}
use Rattle.call_arguments.specs.host_data.Tree.{Tree}
use Rattle.call_arguments.specs.host_data.Values.{amount_tree, object_tree}
use Rattle.call_arguments.specs.host_data.declared.data.ObjKind.TheVariants as kinds
use Rattle.call_arguments.specs.refusals.Codes.{not_enough}
use Rattle.call_arguments.specs.refusals.Outcomes.{◌>>=◌, ◌>>◌, need, reading}
use Rattle.call_arguments.specs.refusals.declared.codes.Refusal.{Refusal}
use Rattle.rearrange.specs.rights_model.declared.Holder.TheVariants.{Payment, Purse}
use Rattle.rearrange.specs.value_tests.Tests.{has, sum_fits}
use Rattle.world_state.specs.Worlds.{State}
use Rattle.world_state.specs.vault_model.Lists.{amount_of, purse_at}
use Rattle.rules.specs.GivenPayments.{live_at}
use Rattle.rules.specs.Outcomes.{Outcome}
use Rattle.rules.specs.Records.{brand_object}
use Rattle.rules.specs.Words.{next_payment, one_move, without_method}

abbrev pub purse_of : State → ℕ → Amount
purse_of w purse = purse_at w.rights.purses purse

-- purse.getAllegedBrand()
unfoldable pub get_alleged_brand : State → ℕ → Result Tree Refusal
get_alleged_brand w purse = Ok (brand_object w (purse_of w purse).brand)

-- purse.getCurrentAmount()
unfoldable pub get_current_amount : State → ℕ → Result Tree Refusal
get_current_amount w purse = Ok (amount_tree (purse_of w purse))

-- purse.getDepositFacet(): it has the purse's number
unfoldable pub get_deposit_facet : ℕ → Result Tree Refusal
get_deposit_facet purse = Ok (object_tree kinds.Deposit purse)

-- purse.deposit(payment, amount)
unfoldable pub deposit : State → ℕ → List Tree → Outcome
deposit w purse args = do
  let held = purse_of w purse
  given ← live_at w held.brand 1 args
  held_in held.brand given.value 2 (arg 2 args)
  sum_fits held.value given.value
  Ok (amount_tree (amount_of held.brand given.value), one_move held.brand (Payment given.number) (Purse purse) given.value)

-- purse.withdraw(amount)
unfoldable pub withdraw : State → ℕ → List Tree → Outcome
withdraw w purse args = do
  let held = purse_of w purse
  value ← amount_in held.brand held.value.kind 1 (arg 1 args)
  need (has held.value value) (not_enough held.value value)
  payment ← next_payment w
  Ok (object_tree kinds.Payment payment, one_move held.brand (Purse purse) (Payment payment) value)

-- ---- the table of methods

-- which rule a call of a purse is
abbrev pub of_purse : State → ℕ → List ℕ → List Tree → Outcome
of_purse w n m args =
    if bytes_eq m (codes "getDepositFacet") then reading (get_deposit_facet n)
    else if bytes_eq m (codes "getAllegedBrand") then reading (get_alleged_brand w n)
    else if bytes_eq m (codes "getCurrentAmount") then reading (get_current_amount w n)
    else if bytes_eq m (codes "deposit") then deposit w n args
    else if bytes_eq m (codes "withdraw") then withdraw w n args
    else without_method m
