-- What the slot of a keyword has, as the seat's allocation has it.
use Rattle.std.proofs.Common.{◌≡◌, ℕ, ◌<◌, List, Option, Some, None, length, map, refl, sym, ap, ◌∙◌, subst}
use Rattle.std.specs.Prelude.{IsSome, unwrap_or}
use Rattle.refusals.specs.amount_math.Held.{Held}
use Rattle.refusals.specs.amount_math.ValueView.{ValueView}
use Rattle.refusals.specs.amount_math.declared.Amount.{Amount}
use Rattle.rules.specs.ertp_mint.Balances.{held_in}
use Rattle.rules.specs.ertp_mint.Stocks.{no_amount}
use Rattle.rules.proofs.lemmas.ListEdits.{read_map}
use Rattle.rules.specs.proposals.Shares.{amount_under}
use Rattle.rules.specs.proposals.declared.allocations.Share.{Share}
use Rattle.rules.specs.vault_model.Seats.{KeptSeat, no_kept_seat}
use Rattle.contract_reads.specs.world_laws.Views.{slots_held}
use Rattle.user_seat_calls.specs.seats.Seats.{SeatView, stored_in}
use Rattle.user_seat_calls.specs.seats.Slots.{HasSlot, SlotView, shares_in}
use Rattle.user_seat_calls.specs.seats.Store as store
use Rattle.user_seat_calls.proofs.vault.SeatReads.{has_share, has_slot, share_read}
use Rattle.user_seat_calls.specs.vault.Memory.{kept_seat}
use Rattle.rules.specs.world_state.Rights.{slots_at}

some_there : (o : Option Amount) (a : Amount) → IsSome o → unwrap_or o no_amount ≡ a → Some a ≡ o
some_there None a some is = absurd cc
some_there (Some x) a some is = ap Some (sym is)

none_there : (o : Option Amount) → (IsSome o → ⊥) → None ≡ o
none_there None not = refl
none_there (Some x) not = absurd (not refl)

slots_read : (ss : List SeatView) (seats : List KeptSeat) (n : ℕ) → map kept_seat ss ≡ seats → shares_in (store.seat_at ss n).slots ≡ slots_at (map slots_held seats) n
slots_read ss seats n is =
    sym (read_map slots_held (map kept_seat ss) n no_kept_seat ∙ ap slots_held (read_map kept_seat ss n store.no_seat))
    ∙ ap (λ (ks : List KeptSeat). slots_at (map slots_held ks) n) is

pub slot_there : (k : List ℕ) (ss : List SeatView) (seats : List KeptSeat) (n : ℕ) → map kept_seat ss ≡ seats
    → HasSlot k (store.seat_at ss n).slots
    → Some (stored_in k (store.seat_at ss n)).amount ≡ amount_under k (slots_at (map slots_held seats) n)
slot_there k ss seats n is has =
    some_there (amount_under k (shares_in here)) (stored_in k (store.seat_at ss n)).amount (has_share k here has) (share_read k here)
    ∙ ap (amount_under k) (slots_read ss seats n is)
  where
    here : List SlotView
    here = (store.seat_at ss n).slots

pub slot_missing : (k : List ℕ) (ss : List SeatView) (seats : List KeptSeat) (n : ℕ) → map kept_seat ss ≡ seats
    → (HasSlot k (store.seat_at ss n).slots → ⊥)
    → None ≡ amount_under k (slots_at (map slots_held seats) n)
slot_missing k ss seats n is not =
    none_there (amount_under k (shares_in here)) (λ some. not (has_slot k here some))
    ∙ ap (amount_under k) (slots_read ss seats n is)
  where
    here : List SlotView
    here = (store.seat_at ss n).slots

-- its brand and a copy of what it holds
pub slot_read : (k : List ℕ) (ss : List SeatView) (seats : List KeptSeat) (n : ℕ) → map kept_seat ss ≡ seats
    → HasSlot k (store.seat_at ss n).slots
    → (brand : ℕ) (value : ValueView) (held : Held)
    → brand ≡ (stored_in k (store.seat_at ss n)).amount.brand
    → held ≡ held_in (stored_in k (store.seat_at ss n))
    → value ≡ held.value
    → Some (record { brand = brand; value = value }) ≡ amount_under k (slots_at (map slots_held seats) n)
slot_read k ss seats n is has brand value held brand_is held_is value_is =
    subst (λ (b : ℕ). Some (record { brand = b; value = value }) ≡ found) (sym brand_is)
    (subst (λ (v : ValueView). Some (record { brand = here.brand; value = v }) ≡ found) (sym (value_is ∙ ap (λ (h : Held). h.value) held_is))
    (slot_there k ss seats n is has))
  where
    here : Amount
    here = (stored_in k (store.seat_at ss n)).amount

    found : Option Amount
    found = amount_under k (slots_at (map slots_held seats) n)
