-- What contracts see of payments: each one by its number, and apart where the live ones stand.
use Rattle.std.specs.Prelude.{◌≡◌, ℕ, ◌+◌, ◌<◌, ◌≤◌, ◌++◌, ◌∷◌, [], Bool, List, Option, None, Some, count_by, is_some, length, slice_get, slice_index_or, slice_set}
use Rattle.std.specs.Prelude.{refl}
use Rattle.std.specs.Coded.{Coded, code_by, coded×, coded_list, coded_option, coded_ℕ}
use Rattle.std.specs.Option.{option_map}
use Rattle.ertp_mint.specs.amount_math.ValueView.{ValueView, coded_value_view}
use Rattle.ertp_mint.specs.amount_math.declared.Amount.{Amount}
use Rattle.holders.specs.declared.payments.PaymentRef.{PaymentRef}

-- A payment: its brand, and what it holds. One that was spent holds nothing.
pub record PaymentView : Type 0 where
  pub brand : ℕ
  pub held : Option ValueView

-- The payments by number, and how many slots are open, each of which will be a payment. Apart from these,
-- where each payment stands, or stood before it was spent; where the next one will; and for how many live
-- ones there is room.
pub record PaymentBook : Type 0 where
  pub views : List PaymentView
  pub slots : ℕ
  pub keys : List ℕ
  pub next_key : ℕ
  pub capacity : ℕ

-- the numbers that stand for them, which a model needs
abbrev pub coded_payment_view : Coded PaymentView
coded_payment_view = code_by (ℕ × Option ValueView) (coded× coded_ℕ (coded_option coded_value_view)) (λ p. (p.brand, p.held)) (λ q. record { brand = q.0; held = q.1 }) (λ _. refl)

abbrev pub coded_payment_book : Coded PaymentBook
coded_payment_book =
    code_by
    ((List PaymentView) × (ℕ × (List ℕ × (ℕ × ℕ))))
    (coded× (coded_list coded_payment_view) (coded× coded_ℕ (coded× (coded_list coded_ℕ) (coded× coded_ℕ coded_ℕ))))
    (λ b. (b.views, (b.slots, (b.keys, (b.next_key, b.capacity)))))
    (λ q. record { views = q.0; slots = q.1.0; keys = q.1.1.0; next_key = q.1.1.1.0; capacity = q.1.1.1.1 })
    (λ _. refl)

abbrev pub no_payments : PaymentBook
no_payments = record { views = []; slots = 0; keys = []; next_key = 0; capacity = 0 }

-- a payment of a parcel, and one that was spent
abbrev pub live_payment : Amount → PaymentView
live_payment a = record { brand = a.brand; held = Some a.value }

abbrev pub spent_payment : ℕ → PaymentView
spent_payment brand = record { brand = brand; held = None }

abbrev pub payment_view_at : List PaymentView → ℕ → PaymentView
payment_view_at views n = slice_index_or views n (spent_payment 0)

abbrev pub is_live : PaymentView → Bool
is_live p = is_some p.held

-- what the payment of a number holds: none where it was spent
abbrev pub held_at : PaymentBook → ℕ → Option ValueView
held_at b n = (payment_view_at b.views n).held

-- how many payments were made and slots are open
abbrev pub made_and_open : PaymentBook → ℕ
made_and_open b = length b.views + b.slots

-- the payment that is made next
abbrev pub next_ref : PaymentBook → PaymentRef
next_ref b = record { number = length b.views; key = b.next_key }

-- there is room for one live payment more
abbrev pub HasVacancy : PaymentBook → Type 0
HasVacancy b = count_by is_live b.views < b.capacity

-- the payment of a number, where it was made
abbrev pub ref_to : PaymentBook → ℕ → Option PaymentRef
ref_to b n = option_map (λ key. record { number = n; key = key }) (slice_get b.keys n)

-- the payment was made, and its key is the one that is kept for its number
abbrev pub IsKept : PaymentBook → PaymentRef → Type 0
IsKept b p = slice_get b.keys p.number ≡ Some p.key

-- the same payments, with at least the room that there was
pub record IsRoomier (old new : PaymentBook) : Type 0 where
  pub views : new.views ≡ old.views
  pub keys : new.keys ≡ old.keys
  pub next_key : new.next_key ≡ old.next_key
  pub room : old.capacity ≤ new.capacity

-- one payment more, of the parcel, which stands where the next one was to
pub record IsMade (old new : PaymentBook) (parcel : Amount) : Type 0 where
  pub views : new.views ≡ old.views ++ live_payment parcel ∷ []
  pub keys : new.keys ≡ old.keys ++ old.next_key ∷ []
  pub room : old.capacity ≤ new.capacity

-- the payment that was made last is gone, and its parcel is given out
pub record IsUnmade (old new : PaymentBook) (parcel : Amount) : Type 0 where
  pub views : old.views ≡ new.views ++ live_payment parcel ∷ []
  pub keys : old.keys ≡ new.keys ++ new.next_key ∷ []
  pub room : new.capacity ≡ old.capacity
  pub vacancy : HasVacancy new

-- the payment is spent: its parcel is given out, and where it stood the next one will
pub record IsSpent (old new : PaymentBook) (n : ℕ) (parcel : Amount) : Type 0 where
  pub payment_view : payment_view_at old.views n ≡ live_payment parcel
  pub views : new.views ≡ slice_set old.views n (spent_payment parcel.brand)
  pub keys : new.keys ≡ old.keys
  pub next_key : slice_get old.keys n ≡ Some new.next_key
  pub room : new.capacity ≡ old.capacity
  pub vacancy : HasVacancy new

-- the payment holds the parcel again, and stands where the next one was to
pub record IsUnspent (old new : PaymentBook) (n : ℕ) (parcel : Amount) : Type 0 where
  pub views : new.views ≡ slice_set old.views n (live_payment parcel)
  pub keys : new.keys ≡ slice_set old.keys n old.next_key
  pub room : new.capacity ≡ old.capacity
