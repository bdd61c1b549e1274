-- A draft: the lists as they are, the movements so far, and what the hand's own store has. What is kept is told by the lists worked backwards.
use Rattle.std.specs.Prelude.{◌≡◌, ℕ, zero, suc, ◌+◌, ◌<◌, ◌≤◌, List, [], ◌∷◌, ◌++◌, Bool, true, false, IsNone, if◌then◌else◌, is_some, length, slice_index_or, slice_set, refl}
use Rattle.std.proofs.Common.{reverse}
use Rattle.std.specs.Coded.{Coded, code_by, coded×, coded_bool, coded_list}
use Rattle.vault_model.specs.amount_math.Amount.{Meet}
use Rattle.vault_model.specs.amount_math.Content.{Content, coded_content, Contains, difference, nothing, sum}
use Rattle.vault_model.specs.amount_math.Held.{HasRoom, keys_in}
use Rattle.vault_model.specs.amount_math.ValueView.{ValueView, keys_of}
use Rattle.vault_model.specs.amount_math.declared.Amount.{Amount}
use Rattle.vault_model.specs.amount_math.declared.Kind.{Kind}
use Rattle.vault_model.specs.ertp_mint.Stocks.{most_made}
use Rattle.vault_model.specs.proposals.Shares.{amount_under, most_shares}
use Rattle.vault_model.specs.proposals.declared.allocations.Share.{Share}
use Rattle.vault_model.specs.rights_model.declared.Holder.{Holder}
use Rattle.vault_model.specs.rights_model.declared.Holder.TheVariants.{Purse, Payment, Slot, Hand, Outside}
use Rattle.vault_model.specs.rights_model.declared.Movement.{Movement}
use Rattle.vault_model.specs.rights_model.Table.{Table, CanMoveAll, coded_movement, table_after}
use Rattle.vault_model.specs.declared.Undo.{Undo}
use Rattle.vault_model.specs.Backwards.{CanAllBack, all_back, in_hand, retired_by}
use Rattle.vault_model.specs.Lists.{Lists, coded_lists, kind_of, moved, slot_of, with_new_brand, with_new_slot}
use Rattle.vault_model.specs.Seats.{HasShare, IsOpenSeat, kept_seat_at}
use Rattle.vault_model.specs.Tables.{Agrees, IsSound, no_hand, table_of}
use Rattle.seats.specs.Staging.{coded_staging}
use Rattle.vault.specs.Asked.{IsTarget}
use Rattle.vault.specs.Memory.{kept_of, lists_of, rooms_of, staged_of, store_of}
use Rattle.vault.specs.declared.stores.Stores.{Stores}

-- what was kept at its beginning, what is now, what is staged of seats, the movements between, and what the hand's own store has of each brand: what was given up, and what is held there
pub record DraftState : Type 0 where
  pub kept : Lists
  pub now : Lists
  pub staging : List (ℕ × List Share)
  pub movements : List Movement
  pub given_up : List Content
  pub is_spoiled : Bool

-- the numbers that stand for it, which a model needs
abbrev pub coded_draft : Coded DraftState
coded_draft =
    code_by (Lists × (Lists × (List (ℕ × List Share) × (List Movement × (List Content × Bool))))) (coded× coded_lists (coded× coded_lists (coded× coded_staging (coded× (coded_list coded_movement) (coded× (coded_list coded_content) coded_bool)))))
    (λ d. (d.kept, (d.now, (d.staging, (d.movements, (d.given_up, d.is_spoiled)))))) (λ p. record { kept = p.0; now = p.1.0; staging = p.1.1.0; movements = p.1.1.1.0; given_up = p.1.1.1.1.0; is_spoiled = p.1.1.1.1.1 }) (λ _. refl)

-- what is told of each of so many brands, listed by number
abbrev pub by_number : ℕ → (ℕ → Content) → List Content
by_number zero of_brand = []
by_number (suc n) of_brand = of_brand 0 ∷ by_number n (λ b. of_brand (suc b))

-- what the hand's own store has of each brand that was made
abbrev pub given_list : Stores → List Content
given_list p = by_number (length p.transit.out) (store_of p)

abbrev pub draft_of : Stores → List Undo → List Movement → Bool → DraftState
draft_of p ks ms spoiled = record { kept = all_back (lists_of p) (reverse ks) (reverse ms); now = lists_of p; staging = staged_of p; movements = ms; given_up = given_list p; is_spoiled = spoiled }

-- the draft with which a turn begins: nothing has moved, and nothing was given up
abbrev pub begun : Lists → DraftState
begun s = record { kept = s; now = s; staging = []; movements = []; given_up = by_number (length s.out) (λ b. nothing); is_spoiled = false }

-- what the hand's own store has of a brand
abbrev pub given_at : DraftState → ℕ → Content
given_at d b = slice_index_or d.given_up b nothing

-- what the hand has: what was taken and not put
abbrev pub hand_now : DraftState → ℕ → Content
hand_now d b = in_hand (reverse d.movements) b

-- the table as it was kept, after the movements so far
abbrev pub table_now : DraftState → Table
table_now d = table_after (table_of d.kept) d.movements

-- the draft after one more movement, after an opening, and after a parcel was given up: no movement
abbrev pub after : DraftState → Movement → DraftState
after d m = record d { now = moved d.now m; movements = d.movements ++ m ∷ [] }

abbrev pub opened : DraftState → Lists → DraftState
opened d now = record d { now = now }

abbrev pub with_staging : DraftState → List (ℕ × List Share) → DraftState
with_staging d staged = record d { staging = staged }

abbrev pub with_brand : DraftState → Kind → DraftState
with_brand d kind = record d { now = with_new_brand d.now kind; given_up = d.given_up ++ nothing ∷ [] }

abbrev pub given_up_too : DraftState → Amount → DraftState
given_up_too d a = record d { given_up = slice_set d.given_up a.brand (sum (given_at d a.brand) a.value.content); is_spoiled = true }

-- and once a parcel of the hand is held in its own store, and once a value was let go from there
abbrev pub held_too : DraftState → Amount → DraftState
held_too d a = record d { given_up = slice_set d.given_up a.brand (sum (given_at d a.brand) a.value.content) }

abbrev pub let_out : DraftState → ℕ → ValueView → DraftState
let_out d b w = record d { given_up = slice_set d.given_up b (difference (given_at d b) w.content) }

-- ---- what a caller may know of a draft

-- all that is held was and is what is out, its table follows the movements, and what the hand's own store has is in the hand
pub record IsValid (d : DraftState) : Type 0 where
  pub sound : IsSound d.now (hand_now d)
  pub agrees : Agrees d.now (hand_now d) (table_now d)
  pub moves : CanMoveAll (table_of d.kept) d.movements
  pub was_sound : IsSound d.kept no_hand
  pub brands : length d.given_up ≡ length d.now.out
  pub given : (b : ℕ) → Contains (hand_now d b) (given_at d b)

-- ---- what the calls ask for

-- a brand that was made, whose values are of the kind
pub record IsOfBrand (s : Lists) (b : ℕ) (w : ValueView) : Type 0 where
  pub made : b < length s.out
  pub kind : kind_of s b ≡ w.kind

-- a slot of an open seat that takes a parcel: of its brand where it is there, and else a further one, which isn't one too many
pub record MayPutInSlot (s : Lists) (n : ℕ) (keyword : List ℕ) (a : Amount) : Type 0 where
  pub made : n < length s.seats
  pub is_open : IsOpenSeat (kept_seat_at s.seats n)
  pub meet : HasShare keyword (kept_seat_at s.seats n).slots → Meet (slot_of s n keyword) a
  pub few : IsNone (amount_under keyword (kept_seat_at s.seats n).slots) → length (kept_seat_at s.seats n).slots < most_shares
  pub left : IsNone (amount_under keyword (kept_seat_at s.seats n).slots) → length s.payments + s.owed < most_made

-- a holder that a parcel may be put to
abbrev pub MayPut : Lists → Holder → Amount → Type 0
MayPut s (Purse n) a = IsTarget s (Purse n) a
MayPut s (Payment n) a = IsTarget s (Payment n) a
MayPut s (Slot n keyword) a = MayPutInSlot s n keyword a
MayPut s Hand a = ⊥
MayPut s Outside a = ⊥

-- the lists in which a parcel is put: where there is no slot for it, a further one was opened, last
abbrev pub slotted : Lists → Holder → Amount → Lists
slotted s (Slot n keyword) a = if is_some (amount_under keyword (kept_seat_at s.seats n).slots) then s else with_new_slot s n keyword a.brand a.value.kind
slotted s (Purse n) a = s
slotted s (Payment n) a = s
slotted s Hand a = s
slotted s Outside a = s

-- the hand, less what its own store has, has it
pub record HandKeeps (d : DraftState) (a : Amount) : Type 0 where
  pub brand : IsOfBrand d.now a.brand a.value
  pub has : Contains (hand_now d a.brand) (sum (given_at d a.brand) a.value.content)

-- the hand's own store has it
pub record IsStored (d : DraftState) (b : ℕ) (w : ValueView) : Type 0 where
  pub brand : IsOfBrand d.now b w
  pub has : Contains (given_at d b) w.content

-- all that the hand has is in its own store
pub record HandGoes (d : DraftState) : Type 0 where
  pub each : (b : ℕ) → b < length d.now.out → given_at d b ≡ hand_now d b

-- nothing is in the hand, and nothing was given up
pub record IsClean (d : DraftState) : Type 0 where
  pub sound : d.is_spoiled ≡ false
  pub hand : (b : ℕ) → hand_now d b ≡ nothing

-- ---- what is kept of a draft in memory

-- all of it can be worked backwards in the room that there is; for what the hand has there is room in its own store, which is bounded by the keys that were taken; and what is kept was retired by movements
pub record IsDraft (p : Stores) (ks : List Undo) (ms : List Movement) (keys : ℕ) (spoiled : Bool) : Type 0 where
  pub can : CanAllBack (rooms_of p) (lists_of p) (reverse ks) (reverse ms)
  pub bounded : (b : ℕ) → keys_in (kind_of (lists_of p) b) (in_hand (reverse ms) b) ≤ keys
  pub room : (b : ℕ) → b < length p.transit.out → HasRoom (kind_of (lists_of p) b) (keys_of (in_hand (reverse ms) b)) ((rooms_of p).hand b)
  pub retired : (b : ℕ) → kept_of p b ≡ retired_by (reverse ms) b
  pub valid : IsValid (draft_of p ks ms spoiled)

-- nothing is on its way in a vault, nothing is staged, and nothing retired is kept
pub record IsVault (p : Stores) (ks : List Undo) (ms : List Movement) : Type 0 where
  pub no_steps : ks ≡ []
  pub no_movements : ms ≡ []
  pub no_staging : staged_of p ≡ []
  pub empty : (b : ℕ) → b < length p.transit.out → store_of p b ≡ nothing
  pub kept : (b : ℕ) → b < length p.transit.out → kept_of p b ≡ nothing
  pub sound : IsSound (lists_of p) no_hand
