-- What purses have: each a store of one brand, by its number.
use Rattle.std.specs.Prelude.{◌≡◌, ℕ, List, slice_index_or, slice_set}
use Rattle.ertp_mint.specs.amount_math.Amount.{holding}
use Rattle.ertp_mint.specs.amount_math.Content.{Contains, Content, sum}
use Rattle.ertp_mint.specs.amount_math.ValueView.{IsPutRefusal, IsValue, ValueView}
use Rattle.ertp_mint.specs.amount_math.declared.Kind.{Kind}
use Rattle.ertp_mint.specs.amount_math.declared.PutFault.{PutFault}
use Rattle.ertp_mint.specs.Balances.{BalanceView, no_store, with_put, with_taken}

-- the store of a purse
abbrev pub store_at : List BalanceView → ℕ → BalanceView
store_at purses n = slice_index_or purses n no_store

abbrev pub kind_at : List BalanceView → ℕ → Kind
kind_at purses n = (store_at purses n).amount.value.kind

abbrev pub content_at : List BalanceView → ℕ → Content
content_at purses n = (store_at purses n).amount.value.content

abbrev pub room_at : List BalanceView → ℕ → ℕ
room_at purses n = (store_at purses n).room

-- the sum of what a purse has with a content
abbrev pub sum_at : List BalanceView → ℕ → Content → Content
sum_at purses n c = sum (content_at purses n) c

-- that sum is a value
abbrev pub TakesIn : List BalanceView → ℕ → Content → Type 0
TakesIn purses n c = IsValue (kind_at purses n) (sum_at purses n c)

-- why a content isn't put in a purse
abbrev pub IsPutFault : List BalanceView → ℕ → Content → PutFault → Type 0
IsPutFault purses n c fault = IsPutRefusal (kind_at purses n) (sum_at purses n c) fault

-- the purses with a content more in one, or with a content less
abbrev pub put_at : List BalanceView → ℕ → Content → List BalanceView
put_at purses n c = slice_set purses n (with_put (store_at purses n) c)

abbrev pub taken_at : List BalanceView → ℕ → Content → List BalanceView
taken_at purses n c = slice_set purses n (with_taken (store_at purses n) c)

-- the purses with room for so many keys in one, and with a content more in it then
abbrev pub with_room_at : List BalanceView → ℕ → ℕ → List BalanceView
with_room_at purses n room = slice_set purses n (record { amount = (store_at purses n).amount; room = room })

abbrev pub put_in_room : List BalanceView → ℕ → Content → ℕ → List BalanceView
put_in_room purses n c room = slice_set purses n (record { amount = holding (store_at purses n).amount (sum_at purses n c); room = room })
