-- Brands and amounts that are read from arguments. Refused are, in this order, what has not the form of a brand or an amount, by its place; two brands; and data that is no value of the brand's kind, the first argument's first.
use Rattle.std.specs.Prelude.{◌==◌, Option, option_map, option_and_then, Result, Ok}
use Rattle.host_data.specs.amount_math.ValueView.{ValueView}
use Rattle.host_data.specs.amount_math.declared.Kind.{Kind}
use Rattle.host_data.specs.Tree.{Tree, object_of}
use Rattle.host_data.specs.Amounts.{AmountData, amount_fields, kind_of_brand, value_in}
use Rattle.refusals.specs.Codes.{bad_args, bad_value, wrong_brand}
use Rattle.refusals.specs.Outcomes.{◌>>=◌, ◌>>◌, need, wanted}
use Rattle.refusals.specs.declared.codes.Refusal.{Refusal}
use Rattle.jessie_semantics.specs.declared.amount_arguments.GivenBrand.{GivenBrand}
use Rattle.jessie_semantics.specs.declared.amount_arguments.OneAmount.{OneAmount}
use Rattle.jessie_semantics.specs.declared.amount_arguments.TwoAmounts.{TwoAmounts}

abbrev pub brand_in : Tree → Option GivenBrand
brand_in t = option_and_then (λ o. option_map (λ kind. record { number = o.number; kind = kind }) (kind_of_brand o.kind)) (object_of t)

-- a value of the kind
abbrev pub worth_in : Kind → Tree → Result ValueView Refusal
worth_in kind t = wanted (value_in kind t) bad_value

-- a brand, and data that is a value of its kind
unfoldable pub amount_made : Tree → Tree → Result OneAmount Refusal
amount_made brand value = do
  own ← wanted (brand_in brand) (bad_args 1)
  worth ← worth_in own.kind value
  Ok (record { brand = own.number; value = worth })

-- an amount
unfoldable pub amount_given : Tree → Result OneAmount Refusal
amount_given t = do
  parts ← wanted (amount_fields t) (bad_args 1)
  worth ← worth_in parts.kind parts.value
  Ok (record { brand = parts.brand; value = worth })

-- a brand, and an amount of it
unfoldable pub amount_of_brand : Tree → Tree → Result OneAmount Refusal
amount_of_brand brand t = do
  own ← wanted (brand_in brand) (bad_args 1)
  parts ← wanted (amount_fields t) (bad_args 2)
  need (parts.brand == own.number) (wrong_brand parts.brand)
  worth ← worth_in own.kind parts.value
  Ok (record { brand = parts.brand; value = worth })

-- the values of two amounts of one brand
unfoldable pub two_values : AmountData → Tree → Result TwoAmounts Refusal
two_values left right = do
  held ← worth_in left.kind left.value
  other ← worth_in left.kind right
  Ok (record { brand = left.brand; left = held; right = other })

-- two amounts of one brand
unfoldable pub two_amounts : Tree → Tree → Result TwoAmounts Refusal
two_amounts first second = do
  left ← wanted (amount_fields first) (bad_args 1)
  right ← wanted (amount_fields second) (bad_args 2)
  need (right.brand == left.brand) (wrong_brand right.brand)
  two_values left right.value
