-- A live payment that is split into several (ERTP's split and splitMany): what is written of it, what is done, and what the lists are then.
use Rattle.std.specs.Prelude.{ℕ, suc, List, [], ◌∷◌, ◌++◌, length, slice_set}
use Rattle.vault_model.specs.amount_math.ValueView.{ValueView}
use Rattle.vault.specs.Combinations.{brand_at}
use Rattle.vault_model.specs.holders.PaymentViews.{PaymentView, live_payment, spent_payment}
use Rattle.vault_model.specs.Flows.{Part, split_up, spread}
use Rattle.vault_model.specs.Lists.{Lists, amount_of, kind_of, with_payments}
use Rattle.vault_model.specs.rights_model.declared.Holder.TheVariants.{Payment}
use Rattle.vault_model.specs.rights_model.declared.Movement.{Movement}

-- a payment for each value, numbered from n
abbrev pub numbered_from : ℕ → List ValueView → List Part
numbered_from n [] = []
numbered_from n (w ∷ ws) = (Payment n, w) ∷ numbered_from (suc n) ws

-- the next payments
abbrev pub next_parts : Lists → List ValueView → List Part
next_parts s ws = numbered_from (length s.payments) ws

-- as it is written, each value goes by itself from the payment to one of the next
abbrev pub split_written : Lists → ℕ → List ValueView → List Movement
split_written s n ws = spread (brand_at s n) (Payment n) (next_parts s ws)

-- as it is done, all of them go to the hand at once, and each goes from there to one of the next
abbrev pub split_done : Lists → ℕ → List ValueView → List Movement
split_done s n ws = split_up (brand_at s n) (kind_of s (brand_at s n)) (Payment n) (next_parts s ws)

-- live payments of these values
abbrev pub live_payments_of : ℕ → List ValueView → List PaymentView
live_payments_of b [] = []
live_payments_of b (w ∷ ws) = live_payment (amount_of b w) ∷ live_payments_of b ws

-- the lists then: the payment is spent, and there is one more for each value
abbrev pub split_lists : Lists → ℕ → List ValueView → Lists
split_lists s n ws = with_payments s (slice_set s.payments n (spent_payment (brand_at s n)) ++ live_payments_of (brand_at s n) ws)
