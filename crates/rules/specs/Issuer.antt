-- Issuers, which have the number of their brand: what they tell, and how they make payments of payments (ERTP; that
-- these are the issuer's is our own).
use Rattle.std.specs.Prelude.{ℕ, List, [], ◌∷◌, length, Result, Ok, if◌then◌else◌, codes}
use Rattle.std.specs.Str.{bytes_eq}
use Rattle.call_arguments.specs.Amounts.{amount_in, held_in, is_same}
use Rattle.call_arguments.specs.Arguments.{arg, filled_list_at}
use Rattle.call_arguments.specs.Lists.{amounts_listed}
use Rattle.call_arguments.specs.amount_math.ValueView.{ValueView}
use Rattle.call_arguments.specs.host_data.Tree.{Tree, boolean, text}
use Rattle.call_arguments.specs.host_data.Values.{amount_tree, object_tree}
use Rattle.call_arguments.specs.host_data.declared.data.ObjKind.TheVariants as kinds
use Rattle.call_arguments.specs.refusals.Codes.{not_enough, wrong_amount}
use Rattle.call_arguments.specs.refusals.Outcomes.{◌>>=◌, ◌>>◌, need, reading}
use Rattle.call_arguments.specs.refusals.declared.codes.Refusal.{Refusal}
use Rattle.rearrange.specs.ertp_mint.Stocks.{most_made}
use Rattle.rearrange.specs.rights_model.declared.Holder.TheVariants.{Outside, Payment}
use Rattle.rearrange.specs.value_tests.Sums.{whole_sum}
use Rattle.rearrange.specs.value_tests.Tests.{has}
use Rattle.world_state.specs.Rights.{kind_at, value_less}
use Rattle.world_state.specs.Worlds.{State, new_purse}
use Rattle.world_state.specs.brands.Brands.{brand_at}
use Rattle.world_state.specs.holders.PaymentViews as views
use Rattle.world_state.specs.vault_model.Lists.{amount_of}
use Rattle.rules.specs.GivenPayments.{live_at, payment_view_of, payment_at}
use Rattle.rules.specs.Lists.{combined, live_listed, next_payments, parted, values_of}
use Rattle.rules.specs.Outcomes.{Outcome}
use Rattle.rules.specs.Records.{brand_object, kind_word}
use Rattle.rules.specs.Words.{next_of, next_payment, one_move, without_method}

-- ---- what an issuer tells

-- issuer.getBrand()
unfoldable pub get_brand : State → ℕ → Result Tree Refusal
get_brand w brand = Ok (brand_object w brand)

-- issuer.getAllegedName(), brand.getAllegedName(): it needn't be the brand's alone
unfoldable pub get_alleged_name : State → ℕ → Result Tree Refusal
get_alleged_name w brand = Ok (text (brand_at w.brands brand).name)

-- issuer.getAssetKind()
unfoldable pub get_asset_kind : State → ℕ → Result Tree Refusal
get_asset_kind w brand = Ok (text (kind_word (brand_at w.brands brand).kind))

-- issuer.getAmountOf(payment)
unfoldable pub get_amount_of : State → ℕ → List Tree → Result Tree Refusal
get_amount_of w brand args = do
  given ← live_at w brand 1 args
  Ok (amount_tree (amount_of brand given.value))

-- issuer.isLive(payment)
unfoldable pub is_live : State → ℕ → List Tree → Result Tree Refusal
is_live w brand args = do
  payment ← payment_at w brand 1 args
  Ok (boolean (views.is_live (payment_view_of w payment)))

-- ---- purses, and the end of a payment

-- issuer.makeEmptyPurse()
unfoldable pub make_empty_purse : State → ℕ → Outcome
make_empty_purse w brand = do
  purse ← next_of (length w.rights.purses) most_made
  Ok (object_tree kinds.Purse purse, new_purse brand ∷ [])

-- issuer.burn(payment, amount)
unfoldable pub burn : State → ℕ → List Tree → Outcome
burn w brand args = do
  given ← live_at w brand 1 args
  held_in brand given.value 2 (arg 2 args)
  Ok (amount_tree (amount_of brand given.value), one_move brand (Payment given.number) Outside given.value)

-- ---- payments of payments

-- issuer.claim(payment, amount)
unfoldable pub claim : State → ℕ → List Tree → Outcome
claim w brand args = do
  given ← live_at w brand 1 args
  held_in brand given.value 2 (arg 2 args)
  payment ← next_payment w
  Ok (object_tree kinds.Payment payment, one_move brand (Payment given.number) (Payment payment) given.value)

-- issuer.combine(payments, amount): the amount is of the whole sum
unfoldable pub combine : State → ℕ → List Tree → Outcome
combine w brand args = do
  given ← live_listed w brand 1 args
  total ← whole_sum (kind_at w.rights.out brand) (values_of given)
  held_in brand total 2 (arg 2 args)
  payment ← next_payment w
  Ok (object_tree kinds.Payment payment, combined brand payment given)

-- what is left of a value without a part
abbrev pub rest_of : ValueView → ValueView → ValueView
rest_of value part = value_less part.content value

-- issuer.split(payment, amount): a payment of the amount, and one of the rest
unfoldable pub split : State → ℕ → List Tree → Outcome
split w brand args = do
  given ← live_at w brand 1 args
  part ← amount_in brand given.value.kind 2 (arg 2 args)
  need (has given.value part) (not_enough given.value part)
  payment ← next_payments w 2
  Ok (parted brand given.number payment (part ∷ rest_of given.value part ∷ []))

-- issuer.splitMany(payment, amounts): a payment of each, which together are what the payment has
unfoldable pub split_many : State → ℕ → List Tree → Outcome
split_many w brand args = do
  given ← live_at w brand 1 args
  items ← filled_list_at 2 args
  parts ← amounts_listed brand given.value.kind 2 items
  total ← whole_sum given.value.kind parts
  need (is_same given.value total) (wrong_amount given.value total)
  payment ← next_payments w (length parts)
  Ok (parted brand given.number payment parts)

-- ---- the table of methods

-- which rule a call of an issuer is
abbrev pub of_issuer : State → ℕ → List ℕ → List Tree → Outcome
of_issuer w n m args =
    if bytes_eq m (codes "getAllegedName") then reading (get_alleged_name w n)
    else if bytes_eq m (codes "getAssetKind") then reading (get_asset_kind w n)
    else if bytes_eq m (codes "getAmountOf") then reading (get_amount_of w n args)
    else if bytes_eq m (codes "claim") then claim w n args
    else if bytes_eq m (codes "combine") then combine w n args
    else if bytes_eq m (codes "split") then split w n args
    else if bytes_eq m (codes "splitMany") then split_many w n args
    else if bytes_eq m (codes "getBrand") then reading (get_brand w n)
    else if bytes_eq m (codes "makeEmptyPurse") then make_empty_purse w n
    else if bytes_eq m (codes "isLive") then reading (is_live w n args)
    else if bytes_eq m (codes "burn") then burn w n args
    else without_method m
