-- Payments of one brand that are combined into one (ERTP): what is written of it, what is done, and what the lists are then.
use Rattle.std.specs.Prelude.{◌≡◌, ◌≢◌, ℕ, List, [], ◌∷◌, ◌++◌, length, slice_set, unwrap_or}
use Rattle.vault_model.specs.amount_math.ValueView.{ValueView}
use Rattle.vault_model.specs.ertp_mint.Stocks.{no_amount}
use Rattle.vault_model.specs.holders.PaymentViews.{PaymentView, live_payment, payment_view_at, spent_payment}
use Rattle.vault_model.specs.Flows.{Part, combined, gathered, whole_of}
use Rattle.vault_model.specs.Lists.{Lists, amount_of, kind_of, with_payments}
use Rattle.vault_model.specs.rights_model.declared.Holder.{Holder}
use Rattle.vault_model.specs.rights_model.declared.Holder.TheVariants.{Payment}
use Rattle.vault_model.specs.rights_model.declared.Movement.{Movement}
use Rattle.vault.specs.Drafts.{IsOfBrand}
use Rattle.vault.specs.Asked.{IsPaymentOf}

-- what is on a payment, where it is live
abbrev pub value_on : PaymentView → ValueView
value_on p = unwrap_or p.held no_amount.value

abbrev pub value_at : Lists → ℕ → ValueView
value_at s n = value_on (payment_view_at s.payments n)

abbrev pub brand_at : Lists → ℕ → ℕ
brand_at s n = (payment_view_at s.payments n).brand

-- a payment of a brand is live, and has a value of the brand's kind
pub record IsLive (s : Lists) (b n : ℕ) : Type 0 where
  pub source : IsPaymentOf s n (value_at s n)
  pub is_of : brand_at s n ≡ b
  pub brand : IsOfBrand s b (value_at s n)

abbrev pub AreLive : Lists → ℕ → List ℕ → Type 0
AreLive s b [] = Unit {0}
AreLive s b (n ∷ ns) = IsLive s b n × AreLive s b ns

-- a payment isn't among these, and each stands once
abbrev pub IsNotAmong : ℕ → List ℕ → Type 0
IsNotAmong n [] = Unit {0}
IsNotAmong n (m ∷ ms) = (n ≢ m) × IsNotAmong n ms

abbrev pub AreOnce : List ℕ → Type 0
AreOnce [] = Unit {0}
AreOnce (n ∷ ns) = IsNotAmong n ns × AreOnce ns

-- the payments, each with all that it has
abbrev pub parts_at : Lists → List ℕ → List Part
parts_at s [] = []
parts_at s (n ∷ ns) = (Payment n, value_at s n) ∷ parts_at s ns

-- their brand, which is the first one's
abbrev pub brand_of_all : Lists → List ℕ → ℕ
brand_of_all s [] = 0
brand_of_all s (n ∷ ns) = brand_at s n

-- all that they have
abbrev pub value_of_all : Lists → List ℕ → ValueView
value_of_all s ns = whole_of (kind_of s (brand_of_all s ns)) (parts_at s ns)

-- the payment that is made next
abbrev pub next_payment : Lists → Holder
next_payment s = Payment (length s.payments)

-- as it is written, each payment goes by itself to the new one
abbrev pub combination_written : Lists → List ℕ → List Movement
combination_written s ns = gathered (brand_of_all s ns) (next_payment s) (parts_at s ns)

-- as it is done, each goes to the hand, and all that they have goes from there to the new one
abbrev pub combination_done : Lists → List ℕ → List Movement
combination_done s ns = combined (brand_of_all s ns) (kind_of s (brand_of_all s ns)) (next_payment s) (parts_at s ns)

-- payments once these of a brand were spent
abbrev pub with_spent : ℕ → List ℕ → List PaymentView → List PaymentView
with_spent b [] views = views
with_spent b (n ∷ ns) views = with_spent b ns (slice_set views n (spent_payment b))

-- the lists then: these are spent, and one more payment has all that they had
abbrev pub combined_lists : Lists → List ℕ → Lists
combined_lists s ns = with_payments s (with_spent (brand_of_all s ns) ns s.payments ++ live_payment (amount_of (brand_of_all s ns) (value_of_all s ns)) ∷ [])
