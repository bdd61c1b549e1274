-- The table of who holds what, made of a vault's lists; when lists and a hand agree with a table; and when all that is held is what is out.
use Rattle.std.specs.Prelude.{◌≡◌, ◌+◌, ◌==◌, if◌then◌else◌, ℕ, suc, List, [], ◌∷◌, ◌++◌, map, Option, Some, None}
use Rattle.rights_model.specs.amount_math.Content.{Content, nothing, sum, difference, count}
use Rattle.rights_model.specs.amount_math.ValueView.{ValueView}
use Rattle.rights_model.specs.amount_math.declared.Amount.{Amount}
use Rattle.holders.specs.ertp_mint.BrandSupply.{supply_at}
use Rattle.holders.specs.PaymentViews.{PaymentView, payment_view_at}
use Rattle.rights_model.specs.declared.Holder.{Holder}
use Rattle.rights_model.specs.declared.Holder.TheVariants.{Purse, Payment, Slot, Hand, Outside}
use Rattle.rights_model.specs.Place.{Place}
use Rattle.rights_model.specs.Table.{Table, holds}
use Rattle.rights_model.specs.Tabulated.{tabulated}
use Rattle.proposals.specs.declared.allocations.Share.{Share}
use Rattle.vault_model.specs.Lists.{Lists, purse_at, slot_of}
use Rattle.vault_model.specs.Seats.{KeptSeat, owed_by_all}

-- a content of a brand, of whatever kind
pub record Right : Type 0 where
  pub brand : ℕ
  pub content : Content

abbrev pub right_in : Amount → Right
right_in a = record { brand = a.brand; content = a.value.content }

-- a spent payment has nothing
abbrev pub content_held : Option ValueView → Content
content_held None = nothing
content_held (Some w) = w.content

abbrev pub right_on : PaymentView → Right
right_on p = record { brand = p.brand; content = content_held p.held }

-- what a right has of a brand
abbrev pub in_brand : Right → ℕ → Content
in_brand r b = if r.brand == b then r.content else nothing

-- what each holder has of a brand, where the hand has this
abbrev pub content_in : Lists → (ℕ → Content) → Holder → ℕ → Content
content_in s hand (Purse n) b = in_brand (right_in (purse_at s.purses n)) b
content_in s hand (Payment n) b = in_brand (right_on (payment_view_at s.payments n)) b
content_in s hand (Slot n keyword) b = in_brand (right_in (slot_of s n keyword)) b
content_in s hand Hand b = hand b
content_in s hand Outside b = nothing

abbrev pub no_hand : ℕ → Content
no_hand e = nothing

abbrev pub hand_plus : (ℕ → Content) → ℕ → Content → ℕ → Content
hand_plus h b c e = if b == e then sum (h e) c else h e

abbrev pub hand_minus : (ℕ → Content) → ℕ → Content → ℕ → Content
hand_minus h b c e = if b == e then difference (h e) c else h e

-- the place of each right, numbered from n
abbrev pub numbered : (ℕ → Holder) → ℕ → List Right → List Place
numbered who n [] = []
numbered who n (r ∷ rs) = (who n, r.brand) ∷ numbered who (suc n) rs

-- the places of the slots of a seat, and of all seats, numbered from n
abbrev pub slots_from : ℕ → List Share → List Place
slots_from n [] = []
slots_from n (r ∷ rs) = (Slot n r.keyword, r.amount.brand) ∷ slots_from n rs

abbrev pub seats_from : ℕ → List KeptSeat → List Place
seats_from n [] = []
seats_from n (s ∷ ss) = slots_from n s.slots ++ seats_from (suc n) ss

-- the places where the lists may have something
abbrev pub places_in : Lists → List Place
places_in s = (numbered Purse 0 (map right_in s.purses) ++ numbered Payment 0 (map right_on s.payments)) ++ seats_from 0 s.seats

-- the table of the lists, with nothing in the hand
unfoldable pub table_of : Lists → Table
table_of s = tabulated (λ p. content_in s no_hand p.0 p.1) (places_in s)

-- the table has what the lists and the hand have
pub record Agrees (s : Lists) (hand : ℕ → Content) (t : Table) : Type 0 where
  pub each : (h : Holder) (b : ℕ) → holds t h b ≡ content_in s hand h b

-- how many of an element rights have of a brand
abbrev pub all_in : List Right → ℕ → List ℕ → ℕ
all_in [] b k = 0
all_in (r ∷ rs) b k = count (in_brand r b) k + all_in rs b k

abbrev pub right_of_share : Share → Right
right_of_share r = right_in r.amount

abbrev pub all_in_seats : List KeptSeat → ℕ → List ℕ → ℕ
all_in_seats [] b k = 0
all_in_seats (s ∷ ss) b k = all_in (map right_of_share s.slots) b k + all_in_seats ss b k

-- all that is held, the hand's too, is what is out; and a payment is owed for each slot of an open seat
pub record IsSound (s : Lists) (hand : ℕ → Content) : Type 0 where
  pub balanced : (b : ℕ) (k : List ℕ) → all_in (map right_in s.purses) b k + all_in (map right_on s.payments) b k + all_in_seats s.seats b k + count (hand b) k ≡ count (supply_at s.out b).outstanding.content k
  pub owed : s.owed ≡ owed_by_all s.seats
