-- What a holder's store has: an amount of its brand, in a place with room for so many keys.
use Rattle.std.specs.Prelude.{◌≡◌, ℕ, ◌+◌, refl}
use Rattle.std.proofs.Common.{ap}
use Rattle.std.specs.Coded.{Coded, code_by, coded×, coded_ℕ}
use Rattle.amount_math.specs.Amount.{Meet, coded_amount, holding}
use Rattle.amount_math.specs.Content.{Content, Contains, difference, difference-sum, sum, sum-difference}
use Rattle.amount_math.specs.Held.{Held, HasRoom}
use Rattle.amount_math.specs.ValueView.{ValueView, IsValue, keys_of}
use Rattle.amount_math.specs.declared.Amount.{Amount}
use Rattle.amount_math.specs.declared.Kind.{Kind}
use Rattle.amount_math.specs.declared.Kind.TheVariants.{Nat}
use Rattle.ertp_mint.specs.Stocks.{empty_amount}

pub record BalanceView : Type 0 where
  pub amount : Amount
  pub room : ℕ

-- the numbers that stand for it, which a model needs
abbrev pub coded_balance_view : Coded BalanceView
coded_balance_view = code_by (Amount × ℕ) (coded× coded_amount coded_ℕ) (λ s. (s.amount, s.room)) (λ p. record { amount = p.0; room = p.1 }) (λ _. refl)

-- a store that was just made
abbrev pub empty_store : ℕ → Kind → BalanceView
empty_store brand kind = record { amount = empty_amount brand kind; room = 0 }

-- what is read where no store was made
abbrev pub no_store : BalanceView
no_store = empty_store 0 Nat

-- what is held in it
abbrev pub held_in : BalanceView → Held
held_in s = record { value = s.amount.value; room = s.room }

-- there is room for so many keys more, which is called spare; units want none
abbrev pub HasSpare : BalanceView → ℕ → Type 0
HasSpare s keys = HasRoom s.amount.value.kind (keys_of s.amount.value.content + keys) s.room

-- there is room for the sum with a content
abbrev pub HasRoomFor : BalanceView → Content → Type 0
HasRoomFor s c = HasRoom s.amount.value.kind (keys_of (sum s.amount.value.content c)) s.room

-- another amount in the same room
abbrev pub with_amount : BalanceView → Amount → BalanceView
with_amount s a = record { amount = a; room = s.room }

-- the store with a content more, and with a content less. The room stays
abbrev pub with_put : BalanceView → Content → BalanceView
with_put s c = record { amount = holding s.amount (sum s.amount.value.content c); room = s.room }

abbrev pub with_taken : BalanceView → Content → BalanceView
with_taken s c = record { amount = holding s.amount (difference s.amount.value.content c); room = s.room }

-- an amount of the store's brand and kind goes in: the sum is a value, and there is room for it
pub record GoesIn (s : BalanceView) (a : Amount) : Type 0 where
  pub meet : Meet s.amount a
  pub value : IsValue s.amount.value.kind (sum s.amount.value.content a.value.content)
  pub room : HasRoomFor s a.value.content

-- a value of the store's kind comes out: it is there
pub record ComesOut (s : BalanceView) (w : ValueView) : Type 0 where
  pub kind : s.amount.value.kind ≡ w.kind
  pub has : Contains s.amount.value.content w.content

-- ---- what was put in can be taken out again, and what was taken put back

pub put_taken : (s : BalanceView) (c : Content) → with_taken (with_put s c) c ≡ s
put_taken s c = ap (λ d. record { amount = holding s.amount d; room = s.room }) (difference-sum s.amount.value.content c)

pub taken_put : (s : BalanceView) (c : Content) → Contains s.amount.value.content c → with_put (with_taken s c) c ≡ s
taken_put s c has = ap (λ d. record { amount = holding s.amount d; room = s.room }) (sum-difference s.amount.value.content c has)
