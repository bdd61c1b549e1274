-- A seat as a vault has it: what it was opened for, what its slots have, and what they had when it was closed (Zoe).
use Rattle.std.specs.Prelude.{ℕ, ◌≡◌, ◌+◌, ◌-◌, ◌<◌, List, [], ◌∷◌, Option, None, IsNone, IsSome, if◌then◌else◌, is_none, length, map, slice_index_or, slice_set, unwrap_or, refl}
use Rattle.std.specs.Coded.{Coded, code_by, coded×, coded_list, coded_option, coded_ℕ}
use Rattle.std.specs.Str.{bytes_eq}
use Rattle.rights_model.specs.amount_math.Content.{nothing}
use Rattle.rights_model.specs.amount_math.declared.Amount.{Amount}
use Rattle.holders.specs.ertp_mint.Stocks.{no_amount}
use Rattle.proposals.specs.Proposals.{coded_proposal}
use Rattle.proposals.specs.Shares.{amount_under, coded_share, keyed_share}
use Rattle.proposals.specs.Slots.{emptied, slots_of}
use Rattle.proposals.specs.declared.allocations.Share.{Share}
use Rattle.proposals.specs.declared.offers.Exit.TheVariants.{OnDemand}
use Rattle.proposals.specs.declared.offers.Proposal.{Proposal}

-- a seat is open until it is closed. It keeps what its slots had then
pub record KeptSeat : Type 0 where
  pub instance : ℕ
  pub proposal : Proposal
  pub slots : List Share
  pub last : Option (List Share)

-- the numbers that stand for a seat, which a model needs
abbrev pub coded_kept_seat : Coded KeptSeat
coded_kept_seat =
    code_by ((ℕ × Proposal) × (List Share × Option (List Share))) (coded× (coded× coded_ℕ coded_proposal) (coded× (coded_list coded_share) (coded_option (coded_list coded_share))))
    (λ s. ((s.instance, s.proposal), (s.slots, s.last))) (λ p. record { instance = p.0.0; proposal = p.0.1; slots = p.1.0; last = p.1.1 }) (λ _. refl)

-- what is read where no seat was made
abbrev pub no_kept_seat : KeptSeat
no_kept_seat = record { instance = 0; proposal = record { give = []; want = []; exit = OnDemand }; slots = []; last = None }

abbrev pub kept_seat_at : List KeptSeat → ℕ → KeptSeat
kept_seat_at seats n = slice_index_or seats n no_kept_seat

abbrev pub IsOpenSeat : KeptSeat → Type 0
IsOpenSeat seat = IsNone seat.last

-- a seat that was just opened: a slot for each share of the proposal, give's before want's, with nothing
abbrev pub new_kept_seat : ℕ → Proposal → KeptSeat
new_kept_seat instance proposal = record { instance = instance; proposal = proposal; slots = map emptied (slots_of proposal); last = None }

-- how many of its slots will be payments: none once it is closed
abbrev pub owed_by : KeptSeat → ℕ
owed_by seat = if is_none seat.last then length seat.slots else 0

abbrev pub owed_by_all : List KeptSeat → ℕ
owed_by_all [] = 0
owed_by_all (s ∷ ss) = owed_by s + owed_by_all ss

-- ---- slots, by keyword

-- what is read where there is no share
abbrev pub empty_share : Share
empty_share = keyed_share [] no_amount

-- a keyword has a share
abbrev pub HasShare : List ℕ → List Share → Type 0
HasShare keyword shares = IsSome (amount_under keyword shares)

-- what stands under a keyword
abbrev pub amount_at : List ℕ → List Share → Amount
amount_at keyword shares = unwrap_or (amount_under keyword shares) no_amount

-- the shares with this amount under the keyword, where it has a share
abbrev pub with_amount : List ℕ → Amount → List Share → List Share
with_amount keyword a [] = []
with_amount keyword a (r ∷ rs) = if bytes_eq keyword r.keyword then keyed_share r.keyword a ∷ rs else r ∷ with_amount keyword a rs

-- a seat with other slots
abbrev pub with_slots : KeptSeat → List Share → KeptSeat
with_slots seat shares = record seat { slots = shares }

-- the slot of a keyword of a seat, and the seats with this amount there
abbrev pub slot_at : List KeptSeat → ℕ → List ℕ → Amount
slot_at seats n keyword = amount_at keyword (kept_seat_at seats n).slots

abbrev pub with_slot : List KeptSeat → ℕ → List ℕ → Amount → List KeptSeat
with_slot seats n keyword a = slice_set seats n (with_slots (kept_seat_at seats n) (with_amount keyword a (kept_seat_at seats n).slots))

-- a seat has a slot of the keyword
pub record HasSlotOf (seats : List KeptSeat) (n : ℕ) (keyword : List ℕ) : Type 0 where
  pub made : n < length seats
  pub there : HasShare keyword (kept_seat_at seats n).slots

-- the share that stands last has nothing
pub record HasEmptyShare (shares : List Share) : Type 0 where
  pub some : 0 < length shares
  pub empty : (slice_index_or shares (length shares - 1) empty_share).amount.value.content ≡ nothing
