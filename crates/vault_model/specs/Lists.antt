-- What a vault has, as lists, and what the halves of a movement make of them.
use Rattle.std.specs.Prelude.{◌≡◌, ℕ, ◌+◌, ◌-◌, ◌<◌, ◌≤◌, List, [], ◌∷◌, ◌++◌, None, Some, length, slice_index_or, slice_set, take, refl}
use Rattle.std.specs.Coded.{Coded, code_by, coded×, coded_list, coded_ℕ}
use Rattle.rights_model.specs.amount_math.Amount.{Meet, coded_amount, holding}
use Rattle.rights_model.specs.amount_math.Content.{Content, Contains, sum, difference}
use Rattle.rights_model.specs.amount_math.Counted.{counted}
use Rattle.rights_model.specs.amount_math.ValueView.{ValueView, Fits, IsValue, minted_bound}
use Rattle.rights_model.specs.amount_math.declared.Amount.{Amount}
use Rattle.rights_model.specs.amount_math.declared.Kind.{Kind}
use Rattle.holders.specs.ertp_mint.BrandSupply.{BrandSupply, coded_supply, issued, new_supply, retired, supply_at}
use Rattle.holders.specs.ertp_mint.Circulating.{unissued, unretired}
use Rattle.holders.specs.ertp_mint.Stocks.{empty_amount, no_amount}
use Rattle.holders.specs.PaymentViews.{PaymentView, coded_payment_view, live_payment, payment_view_at, spent_payment}
use Rattle.rights_model.specs.declared.Holder.{Holder}
use Rattle.rights_model.specs.declared.Holder.TheVariants.{Purse, Payment, Slot, Hand, Outside}
use Rattle.rights_model.specs.declared.Movement.{Movement}
use Rattle.proposals.specs.declared.offers.Proposal.{Proposal}
use Rattle.proposals.specs.Shares.{keyed_share}
use Rattle.proposals.specs.Slots.{slots_of}
use Rattle.vault_model.specs.Seats.{HasSlotOf, KeptSeat, coded_kept_seat, kept_seat_at, new_kept_seat, slot_at, with_slot, with_slots}

-- purses, payments and seats by number, how many payments are owed (one for each slot of an open seat), and what is out of each brand
pub record Lists : Type 0 where
  pub purses : List Amount
  pub payments : List PaymentView
  pub seats : List KeptSeat
  pub owed : ℕ
  pub out : List BrandSupply

-- the numbers that stand for them, which a model needs
abbrev pub coded_lists : Coded Lists
coded_lists =
    code_by (List Amount × (List PaymentView × (List KeptSeat × (ℕ × List BrandSupply)))) (coded× (coded_list coded_amount) (coded× (coded_list coded_payment_view) (coded× (coded_list coded_kept_seat) (coded× coded_ℕ (coded_list coded_supply)))))
    (λ s. (s.purses, (s.payments, (s.seats, (s.owed, s.out))))) (λ p. record { purses = p.0; payments = p.1.0; seats = p.1.1.0; owed = p.1.1.1.0; out = p.1.1.1.1 }) (λ _. refl)

abbrev pub no_lists : Lists
no_lists = record { purses = []; payments = []; seats = []; owed = 0; out = [] }

-- a value as an amount of a brand
abbrev pub amount_of : ℕ → ValueView → Amount
amount_of b w = record { brand = b; value = w }

abbrev pub purse_at : List Amount → ℕ → Amount
purse_at purses n = slice_index_or purses n no_amount

abbrev pub kind_of : Lists → ℕ → Kind
kind_of s b = (supply_at s.out b).outstanding.kind

-- with a content more, and with a content less
abbrev pub more : Amount → Content → Amount
more a c = holding a (sum a.value.content c)

abbrev pub less : Amount → Content → Amount
less a c = holding a (difference a.value.content c)

abbrev pub with_purses : Lists → List Amount → Lists
with_purses s l = record s { purses = l }

abbrev pub with_payments : Lists → List PaymentView → Lists
with_payments s l = record s { payments = l }

abbrev pub with_seats : Lists → List KeptSeat → Lists
with_seats s l = record s { seats = l }

abbrev pub with_outs : Lists → List BrandSupply → Lists
with_outs s l = record s { out = l }

abbrev pub with_purse : Lists → ℕ → Amount → Lists
with_purse s n a = with_purses s (slice_set s.purses n a)

abbrev pub with_payment : Lists → ℕ → PaymentView → Lists
with_payment s n p = with_payments s (slice_set s.payments n p)

-- what a slot of a seat has, and with this amount there
abbrev pub slot_of : Lists → ℕ → List ℕ → Amount
slot_of s n keyword = slot_at s.seats n keyword

abbrev pub with_slot_of : Lists → ℕ → List ℕ → Amount → Lists
with_slot_of s n keyword a = with_seats s (with_slot s.seats n keyword a)

abbrev pub with_out : Lists → ℕ → BrandSupply → Lists
with_out s b x = with_outs s (slice_set s.out b x)

-- what a holder gives is gone there; a payment is then spent; what comes from outside is out
abbrev pub taken : Lists → Holder → ℕ → ValueView → Lists
taken s (Purse n) b w = with_purse s n (less (purse_at s.purses n) w.content)
taken s (Payment n) b w = with_payment s n (spent_payment b)
taken s (Slot n keyword) b w = with_slot_of s n keyword (less (slot_of s n keyword) w.content)
taken s Hand b w = s
taken s Outside b w = with_out s b (issued (supply_at s.out b) w.content)

-- what a holder gets is there; a payment is made by it; what goes outside is no longer out
abbrev pub given : Lists → Holder → ℕ → ValueView → Lists
given s (Purse n) b w = with_purse s n (more (purse_at s.purses n) w.content)
given s (Payment n) b w = with_payments s (s.payments ++ live_payment (amount_of b w) ∷ [])
given s (Slot n keyword) b w = with_slot_of s n keyword (more (slot_of s n keyword) w.content)
given s Hand b w = s
given s Outside b w = with_out s b (retired (supply_at s.out b) w.content)

abbrev pub moved : Lists → Movement → Lists
moved s m = given (taken s m.from m.brand m.value) m.to m.brand m.value

-- a purse more, with nothing of a brand, and a brand more, of which nothing was issued
abbrev pub with_new_purse : Lists → ℕ → Kind → Lists
with_new_purse s b kind = with_purses s (s.purses ++ empty_amount b kind ∷ [])

abbrev pub with_new_brand : Lists → Kind → Lists
with_new_brand s kind = with_outs s (s.out ++ new_supply kind ∷ [])

-- a seat more, of which a payment is owed for each of its slots
abbrev pub with_new_seat : Lists → ℕ → Proposal → Lists
with_new_seat s instance proposal = record s { seats = s.seats ++ new_kept_seat instance proposal ∷ []; owed = s.owed + length (slots_of proposal) }

-- a seat with a further slot, last, with nothing of a brand, for which a payment is owed
abbrev pub with_new_slot : Lists → ℕ → List ℕ → ℕ → Kind → Lists
with_new_slot s n keyword b kind = record s { seats = slice_set s.seats n (with_slots (kept_seat_at s.seats n) ((kept_seat_at s.seats n).slots ++ keyed_share keyword (empty_amount b kind) ∷ [])); owed = s.owed + 1 }

-- a seat closed, which keeps what its slots have. Its payments are owed no more: they are made next
abbrev pub with_closed_seat : Lists → ℕ → Lists
with_closed_seat s n = record s { seats = slice_set s.seats n (record (kept_seat_at s.seats n) { last = Some (kept_seat_at s.seats n).slots }); owed = s.owed - length (kept_seat_at s.seats n).slots }

-- ---- the same turned round

-- what was given is taken out again
abbrev pub ungiven : Lists → Holder → ℕ → ValueView → Lists
ungiven s (Purse n) b w = with_purse s n (less (purse_at s.purses n) w.content)
ungiven s (Payment n) b w = with_payments s (take n s.payments)
ungiven s (Slot n keyword) b w = with_slot_of s n keyword (less (slot_of s n keyword) w.content)
ungiven s Hand b w = s
ungiven s Outside b w = with_out s b (unretired (supply_at s.out b) w.content)

-- what was taken is put in again
abbrev pub untaken : Lists → Holder → ℕ → ValueView → Lists
untaken s (Purse n) b w = with_purse s n (more (purse_at s.purses n) w.content)
untaken s (Payment n) b w = with_payment s n (live_payment (amount_of b w))
untaken s (Slot n keyword) b w = with_slot_of s n keyword (more (slot_of s n keyword) w.content)
untaken s Hand b w = s
untaken s Outside b w = with_out s b (unissued (supply_at s.out b) w.content)

abbrev pub back : Lists → Movement → Lists
back s m = untaken (ungiven s m.to m.brand m.value) m.from m.brand m.value

abbrev pub without_last_purse : Lists → Lists
without_last_purse s = with_purses s (take (length s.purses - 1) s.purses)

abbrev pub without_last_brand : Lists → Lists
without_last_brand s = with_outs s (take (length s.out - 1) s.out)

abbrev pub without_last_seat : Lists → Lists
without_last_seat s = record s { seats = take (length s.seats - 1) s.seats; owed = s.owed - length (kept_seat_at s.seats (length s.seats - 1)).slots }

abbrev pub without_last_slot_of : ℕ → Lists → Lists
without_last_slot_of n s = record s { seats = slice_set s.seats n (with_slots (kept_seat_at s.seats n) (take (length (kept_seat_at s.seats n).slots - 1) (kept_seat_at s.seats n).slots)); owed = s.owed - 1 }

abbrev pub with_reopened_seat : ℕ → Lists → Lists
with_reopened_seat n s = record s { seats = slice_set s.seats n (record (kept_seat_at s.seats n) { last = None }); owed = s.owed + length (kept_seat_at s.seats n).slots }

-- ---- when a movement's halves can be made

-- a purse of the brand gives a value up
pub record GivesUp (s : Lists) (n b : ℕ) (w : ValueView) : Type 0 where
  pub made : n < length s.purses
  pub brand : (purse_at s.purses n).brand ≡ b
  pub kind : (purse_at s.purses n).value.kind ≡ w.kind
  pub has : Contains (purse_at s.purses n).value.content w.content

-- a purse of the brand takes a value
pub record TakesUp (s : Lists) (n b : ℕ) (w : ValueView) : Type 0 where
  pub made : n < length s.purses
  pub meet : Meet (purse_at s.purses n) (amount_of b w)
  pub value : IsValue (purse_at s.purses n).value.kind (sum (purse_at s.purses n).value.content w.content)

-- a slot of the brand gives a value up, also that of a closed seat
pub record SlotGivesUp (s : Lists) (n : ℕ) (keyword : List ℕ) (b : ℕ) (w : ValueView) : Type 0 where
  pub slot : HasSlotOf s.seats n keyword
  pub brand : (slot_of s n keyword).brand ≡ b
  pub kind : (slot_of s n keyword).value.kind ≡ w.kind
  pub has : Contains (slot_of s n keyword).value.content w.content

-- a slot of the brand takes a value
pub record SlotTakesUp (s : Lists) (n : ℕ) (keyword : List ℕ) (b : ℕ) (w : ValueView) : Type 0 where
  pub slot : HasSlotOf s.seats n keyword
  pub meet : Meet (slot_of s n keyword) (amount_of b w)
  pub value : IsValue (slot_of s n keyword).value.kind (sum (slot_of s n keyword).value.content w.content)

-- a payment is live, and has just this
pub record IsWhole (s : Lists) (n b : ℕ) (w : ValueView) : Type 0 where
  pub made : n < length s.payments
  pub is : payment_view_at s.payments n ≡ live_payment (amount_of b w)

-- a value may come out of a brand: no count of what is out then passes its bound, nor the minted total its own; and it is out
pub record MayCome (s : Lists) (b : ℕ) (w : ValueView) : Type 0 where
  pub made : b < length s.out
  pub kind : kind_of s b ≡ w.kind
  pub fits : Fits w.kind (sum (supply_at s.out b).outstanding.content w.content)
  pub minted : (supply_at s.out b).minted + counted w.content ≤ minted_bound

pub record IsOutOf (s : Lists) (b : ℕ) (w : ValueView) : Type 0 where
  pub made : b < length s.out
  pub kind : kind_of s b ≡ w.kind
  pub has : Contains (supply_at s.out b).outstanding.content w.content

abbrev pub CanTake : Lists → Holder → ℕ → ValueView → Type 0
CanTake s (Purse n) b w = GivesUp s n b w
CanTake s (Payment n) b w = IsWhole s n b w
CanTake s (Slot n keyword) b w = SlotGivesUp s n keyword b w
CanTake s Hand b w = ⊥
CanTake s Outside b w = MayCome s b w

abbrev pub CanGive : Lists → Holder → ℕ → ValueView → Type 0
CanGive s (Purse n) b w = TakesUp s n b w
CanGive s (Payment n) b w = n ≡ length s.payments
CanGive s (Slot n keyword) b w = SlotTakesUp s n keyword b w
CanGive s Hand b w = ⊥
CanGive s Outside b w = IsOutOf s b w
