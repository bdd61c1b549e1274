-- What is held and what is out, as lists; what written movements make of them, one after another
-- and together; and when they can be made.
use Rattle.std.specs.Prelude.{◌≡◌, ℕ, ◌+◌, ◌<◌, ◌≤◌, ◌==◌, if◌then◌else◌, Bool, true, false}
use Rattle.std.specs.Prelude.{List, [], ◌∷◌, ◌++◌, length, map, slice_index_or, slice_set}
use Rattle.std.specs.Prelude.{Option, Some, None, IsSomeAnd}
use Rattle.std.specs.List.{flat_map}
use Rattle.std.specs.Option.{option_map}
use Rattle.std.specs.Str.{bytes_eq}
use Rattle.vault_model.specs.amount_math.Amount.{holding}
use Rattle.vault_model.specs.amount_math.Content.{Content, Contains, sum, difference, count, nothing}
use Rattle.vault_model.specs.amount_math.Counted.{counted}
use Rattle.vault_model.specs.amount_math.ValueView.{ValueView, Fits, IsValue, minted_bound, with_content}
use Rattle.vault_model.specs.amount_math.declared.Amount.{Amount}
use Rattle.vault_model.specs.amount_math.declared.Kind.{Kind}
use Rattle.vault_model.specs.ertp_mint.BrandSupply.{BrandSupply, issued, retired, supply_at}
use Rattle.vault_model.specs.holders.PaymentViews.{PaymentView, live_payment, payment_view_at, spent_payment}
use Rattle.vault_model.specs.proposals.Shares.{amount_under, most_shares, keyed_share}
use Rattle.vault_model.specs.proposals.declared.allocations.Share.{Share}
use Rattle.vault_model.specs.rights_model.declared.Holder.{Holder}
use Rattle.vault_model.specs.rights_model.declared.Holder.TheVariants.{Purse, Payment, Slot, Hand, Outside}
use Rattle.vault_model.specs.rights_model.declared.Movement.{Movement}
use Rattle.vault_model.specs.Lists.{amount_of, less, more, purse_at}
use Rattle.vault_model.specs.Tables.{Right, all_in, hand_minus, hand_plus, right_in, right_on}

-- purses and payments by number, the slots of each seat by the seat's number, and what is out of
-- each brand
pub record Rights : Type 0 where
  pub purses : List Amount
  pub payments : List PaymentView
  pub slots : List (List Share)
  pub out : List BrandSupply

-- the slots of a seat
abbrev pub slots_at : List (List Share) → ℕ → List Share
slots_at slots n = slice_index_or slots n []

abbrev pub kind_at : List BrandSupply → ℕ → Kind
kind_at out b = (supply_at out b).outstanding.kind

-- ---- what the halves of a written movement make of them

-- a payment with a content less, and with a content more
abbrev pub value_less : Content → ValueView → ValueView
value_less c w = with_content w (difference w.content c)

abbrev pub value_more : Content → ValueView → ValueView
value_more c w = with_content w (sum w.content c)

abbrev pub lessened_payment : PaymentView → Content → PaymentView
lessened_payment p c = record { brand = p.brand; held = option_map (value_less c) p.held }

abbrev pub raised_payment : PaymentView → Content → PaymentView
raised_payment p c = record { brand = p.brand; held = option_map (value_more c) p.held }

-- shares with another amount under a keyword, which gets a share, last, where it has none
abbrev pub changed_share : (Amount → Amount) → Share → Share
changed_share change r = keyed_share r.keyword (change r.amount)

abbrev pub shares_with : List ℕ → (Amount → Amount) → Amount → List Share → List Share
shares_with keyword change new [] = keyed_share keyword new ∷ []
shares_with keyword change new (r ∷ rs) =
    if bytes_eq keyword r.keyword then changed_share change r ∷ rs
    else r ∷ shares_with keyword change new rs

-- shares with an amount less under a keyword: nothing where it had no share
abbrev pub shares_less : List ℕ → Amount → List Share → List Share
shares_less keyword a shares =
    shares_with keyword (λ had. less had a.value.content) (holding a nothing) shares

-- shares with an amount more under a keyword
abbrev pub shares_more : List ℕ → Amount → List Share → List Share
shares_more keyword a shares = shares_with keyword (λ had. more had a.value.content) a shares

-- the next payment is made by what comes to it; one that a movement before made has that more
abbrev pub paid_payment : List PaymentView → ℕ → Amount → PaymentView
paid_payment ps n a = raised_payment (payment_view_at ps n) a.value.content

abbrev pub paid : List PaymentView → ℕ → Amount → List PaymentView
paid ps n a =
    if n == length ps then ps ++ live_payment a ∷ [] else slice_set ps n (paid_payment ps n a)

abbrev pub taken : Rights → Holder → ℕ → ValueView → Rights
taken r (Purse n) b w = record r {
  purses = slice_set r.purses n (less (purse_at r.purses n) w.content);
}
taken r (Payment n) b w = record r {
  payments = slice_set r.payments n (lessened_payment (payment_view_at r.payments n) w.content);
}
taken r (Slot s k) b w = record r {
  slots = slice_set r.slots s (shares_less k (amount_of b w) (slots_at r.slots s));
}
taken r Hand b w = r
taken r Outside b w = record r { out = slice_set r.out b (issued (supply_at r.out b) w.content) }

abbrev pub given : Rights → Holder → ℕ → ValueView → Rights
given r (Purse n) b w = record r {
  purses = slice_set r.purses n (more (purse_at r.purses n) w.content);
}
given r (Payment n) b w = record r { payments = paid r.payments n (amount_of b w) }
given r (Slot s k) b w = record r {
  slots = slice_set r.slots s (shares_more k (amount_of b w) (slots_at r.slots s));
}
given r Hand b w = r
given r Outside b w = record r { out = slice_set r.out b (retired (supply_at r.out b) w.content) }

abbrev pub moved : Rights → Movement → Rights
moved r m = given (taken r m.from m.brand m.value) m.to m.brand m.value

abbrev pub all_moved : Rights → List Movement → Rights
all_moved r [] = r
all_moved r (m ∷ ms) = all_moved (moved r m) ms

-- the payments that movements took from are spent
abbrev pub spent_from : Holder → List PaymentView → List PaymentView
spent_from (Payment n) ps = slice_set ps n (spent_payment (payment_view_at ps n).brand)
spent_from (Purse n) ps = ps
spent_from (Slot s k) ps = ps
spent_from Hand ps = ps
spent_from Outside ps = ps

abbrev pub all_spent : List Movement → List PaymentView → List PaymentView
all_spent [] ps = ps
all_spent (m ∷ ms) ps = all_spent ms (spent_from m.from ps)

-- movements that are made together: what they took from is spent once all are made
abbrev pub moved_together : Rights → List Movement → Rights
moved_together r ms = record (all_moved r ms) { payments = all_spent ms (all_moved r ms).payments }

-- ---- what else is made of them

-- a purse with nothing, and a payment of nothing
abbrev pub with_purse : Rights → Amount → Rights
with_purse r a = record r { purses = r.purses ++ a ∷ [] }

abbrev pub with_payment : Rights → Amount → Rights
with_payment r a = record r { payments = r.payments ++ live_payment a ∷ [] }

-- a brand of which nothing was issued
abbrev pub with_supply : Rights → BrandSupply → Rights
with_supply r s = record r { out = r.out ++ s ∷ [] }

-- a seat more, with these slots
abbrev pub with_slots : Rights → List Share → Rights
with_slots r shares = record r { slots = r.slots ++ shares ∷ [] }

-- ---- when a movement's halves can be made

-- an amount of a brand has a content, and with a content more it is a value
pub record Has (a : Amount) (b : ℕ) (w : ValueView) : Type 0 where
  pub brand : a.brand ≡ b
  pub kind : a.value.kind ≡ w.kind
  pub has : Contains a.value.content w.content

pub record Takes (a : Amount) (b : ℕ) (w : ValueView) : Type 0 where
  pub brand : a.brand ≡ b
  pub kind : a.value.kind ≡ w.kind
  pub value : IsValue w.kind (sum a.value.content w.content)

pub record PurseHas (r : Rights) (n b : ℕ) (w : ValueView) : Type 0 where
  pub made : n < length r.purses
  pub has : Has (purse_at r.purses n) b w

-- a payment is live, and what it has meets a test
abbrev pub IsPaymentWith : PaymentView → (Amount → Type 0) → Type 0
IsPaymentWith p P = IsSomeAnd p.held (λ held. P (amount_of p.brand held))

pub record PaymentHas (r : Rights) (n b : ℕ) (w : ValueView) : Type 0 where
  pub made : n < length r.payments
  pub has : IsPaymentWith (payment_view_at r.payments n) (λ a. Has a b w)

-- nothing of any element
pub record IsNothing (c : Content) : Type 0 where
  pub each : (k : List ℕ) → count c k ≡ 0

-- the slot has it; where there is none, nothing is taken, and the slot can be opened
abbrev pub HasOrOpens : Option Amount → List Share → ℕ → ValueView → Type 0
HasOrOpens (Some a) shares b w = Has a b w
HasOrOpens None shares b w = IsNothing w.content × (length shares < most_shares)

pub record SlotHas (r : Rights) (s : ℕ) (k : List ℕ) (b : ℕ) (w : ValueView) : Type 0 where
  pub made : s < length r.slots
  pub has : HasOrOpens (amount_under k (slots_at r.slots s)) (slots_at r.slots s) b w

pub record HandHas (hand : ℕ → Content) (b : ℕ) (w : ValueView) : Type 0 where
  pub has : Contains (hand b) w.content

-- it may come out of its brand: what is out then is within the kind's bound, and what was minted within its own
pub record MayCome (r : Rights) (b : ℕ) (w : ValueView) : Type 0 where
  pub fits : Fits w.kind (sum (supply_at r.out b).outstanding.content w.content)
  pub minted : (supply_at r.out b).minted + counted w.content ≤ minted_bound

abbrev pub CanTake : Rights → (ℕ → Content) → Holder → ℕ → ValueView → Type 0
CanTake r hand (Purse n) b w = PurseHas r n b w
CanTake r hand (Payment n) b w = PaymentHas r n b w
CanTake r hand (Slot s k) b w = SlotHas r s k b w
CanTake r hand Hand b w = HandHas hand b w
CanTake r hand Outside b w = MayCome r b w

pub record PurseTakes (r : Rights) (n b : ℕ) (w : ValueView) : Type 0 where
  pub made : n < length r.purses
  pub takes : Takes (purse_at r.purses n) b w

-- a payment that is live takes more
pub record PaymentMore (r : Rights) (n b : ℕ) (w : ValueView) : Type 0 where
  pub made : n < length r.payments
  pub takes : IsPaymentWith (payment_view_at r.payments n) (λ a. Takes a b w)

abbrev pub IsNextOr : Bool → Rights → ℕ → ℕ → ValueView → Type 0
IsNextOr true r n b w = IsValue w.kind w.content
IsNextOr false r n b w = PaymentMore r n b w

-- the payment is the next, or one that is live
abbrev pub PaymentTakes : Rights → ℕ → ℕ → ValueView → Type 0
PaymentTakes r n b w = IsNextOr (n == length r.payments) r n b w

-- the slot is there, or can be opened
abbrev pub TakesOrOpens : Option Amount → List Share → ℕ → ValueView → Type 0
TakesOrOpens (Some a) shares b w = Takes a b w
TakesOrOpens None shares b w = IsValue w.kind w.content × (length shares < most_shares)

pub record SlotTakes (r : Rights) (s : ℕ) (k : List ℕ) (b : ℕ) (w : ValueView) : Type 0 where
  pub made : s < length r.slots
  pub takes : TakesOrOpens (amount_under k (slots_at r.slots s)) (slots_at r.slots s) b w

pub record IsOut (r : Rights) (b : ℕ) (w : ValueView) : Type 0 where
  pub has : Contains (supply_at r.out b).outstanding.content w.content

abbrev pub CanGive : Rights → Holder → ℕ → ValueView → Type 0
CanGive r (Purse n) b w = PurseTakes r n b w
CanGive r (Payment n) b w = PaymentTakes r n b w
CanGive r (Slot s k) b w = SlotTakes r s k b w
CanGive r Hand b w = Unit {0}
CanGive r Outside b w = IsOut r b w

-- what the hand has after a movement
abbrev pub hand_out : (ℕ → Content) → Holder → ℕ → Content → ℕ → Content
hand_out hand Hand b c = hand_minus hand b c
hand_out hand (Purse n) b c = hand
hand_out hand (Payment n) b c = hand
hand_out hand (Slot s k) b c = hand
hand_out hand Outside b c = hand

abbrev pub hand_in : (ℕ → Content) → Holder → ℕ → Content → ℕ → Content
hand_in hand Hand b c = hand_plus hand b c
hand_in hand (Purse n) b c = hand
hand_in hand (Payment n) b c = hand
hand_in hand (Slot s k) b c = hand
hand_in hand Outside b c = hand

abbrev pub hand_after : (ℕ → Content) → Movement → ℕ → Content
hand_after hand m =
    hand_in (hand_out hand m.from m.brand m.value.content) m.to m.brand m.value.content

-- a movement of a brand that was made, of its kind, can be made
pub record CanMove (r : Rights) (hand : ℕ → Content) (m : Movement) : Type 0 where
  pub brand : m.brand < length r.out
  pub kind : kind_at r.out m.brand ≡ m.value.kind
  pub from : CanTake r hand m.from m.brand m.value
  pub to : CanGive (taken r m.from m.brand m.value) m.to m.brand m.value

pub record IsEmptyHand (hand : ℕ → Content) : Type 0 where
  pub each : (b : ℕ) (k : List ℕ) → count (hand b) k ≡ 0

-- each can be made after those before it, and leave nothing in the hand
abbrev pub CanMoveAll : Rights → (ℕ → Content) → List Movement → Type 0
CanMoveAll r hand [] = IsEmptyHand hand
CanMoveAll r hand (m ∷ ms) = CanMove r hand m × CanMoveAll (moved r m) (hand_after hand m) ms

-- ---- turns

-- how many there may be
abbrev pub most_turns : ℕ
most_turns = 4000000000

-- ---- all that is held

abbrev pub right_of_share : Share → Right
right_of_share r = right_in r.amount

abbrev pub slot_rights : List (List Share) → List Right
slot_rights slots = flat_map (λ shares. map right_of_share shares) slots

-- how many of an element all purses, payments and slots have of a brand
abbrev pub held_of : Rights → ℕ → List ℕ → ℕ
held_of r b k =
    all_in (map right_in r.purses) b k
    + all_in (map right_on r.payments) b k
    + all_in (slot_rights r.slots) b k
