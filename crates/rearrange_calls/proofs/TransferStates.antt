-- Seats as the stores have them are what the world's plans are made from.
use Rattle.std.specs.Prelude.{slice_index_or, unwrap_or, is_none, IfOk, Result}
use Rattle.std.proofs.Common.{◌≡◌, ℕ, ◌<◌, List, Option, None, length, map, sym, ap, subst, ◌∙◌, arith}
use Rattle.share_transfers.proofs.contract_reads.Allocated.{staged_read}
use Rattle.world_reads.specs.draft_reads.Views.{staged_from}
use Rattle.rearrange.proofs.lemmas.ListEdits.{length_map, read_map}
use Rattle.rules.specs.proposals.declared.allocations.Share.{Share}
use Rattle.rules.specs.proposals.declared.plans.SeatState.{SeatState}
use Rattle.world_reads.proofs.draft_reads.WorldLists.{seat_read, world_seat}
use Rattle.rules.specs.vault_model.Seats.{KeptSeat, no_kept_seat}
use Rattle.share_transfers.specs.world_laws.Views.{seat_of, slots_held}
use Rattle.world_reads.specs.seats.Seats.{SeatView}
use Rattle.world_reads.specs.seats.Slots.{shares_in}
use Rattle.world_reads.specs.seats.Staging.{staged_at}
use Rattle.world_reads.specs.seats.Store as store
use Rattle.world_reads.specs.vault.Memory.{kept_seat}
use Rattle.rules.specs.world_state.Rights.{slots_at}
use Rattle.rules.specs.world_state.Worlds.{Seat, seat_at}

-- ---- one seat

abbrev pub as_state : ℕ → Seat → List Share → Option (List Share) → SeatState
as_state n s shares staged = record {
  seat = n;
  instance = s.instance;
  proposal = s.proposal;
  allocation = unwrap_or s.last shares;
  staged = staged;
  is_open = is_none s.last;
}

slots_read : (ss : List SeatView) (n : ℕ) → slots_at (map slots_held (map kept_seat ss)) n ≡ shares_in (store.seat_at ss n).slots
slots_read ss n = read_map slots_held (map kept_seat ss) n no_kept_seat ∙ ap slots_held (read_map kept_seat ss n store.no_seat)

pub state_read : (view : store.SeatsView) (seats : List KeptSeat) (staging : List (ℕ × List Share)) (n : ℕ) → map kept_seat view.seats ≡ seats → view.staging ≡ staging → n < length (map seat_of seats) → store.state_of n view ≡ as_state n (seat_at (map seat_of seats) n) (slots_at (map slots_held seats) n) (slice_index_or (staged_from 0 seats staging) n None)
state_read view seats staging n is same within =
    let there : seat_at (map seat_of seats) n ≡ world_seat (store.seat_at view.seats n) =
    subst (λ (ks : List KeptSeat). seat_at (map seat_of ks) n ≡ world_seat (store.seat_at view.seats n)) is
    (seat_read view.seats n (omega (arith, within, length_map seat_of seats, ap length is, length_map kept_seat view.seats))) in
    let slots : slots_at (map slots_held seats) n ≡ shares_in (store.seat_at view.seats n).slots =
    subst (λ (ks : List KeptSeat). slots_at (map slots_held ks) n ≡ shares_in (store.seat_at view.seats n).slots) is (slots_read view.seats n) in
    ap (λ (s : Seat). as_state n s (shares_in (store.seat_at view.seats n).slots) (staged_at n view.staging)) (sym there)
    ∙ ap (λ (shares : List Share). as_state n (seat_at (map seat_of seats) n) shares (staged_at n view.staging)) (sym slots)
    ∙ ap (as_state n (seat_at (map seat_of seats) n) (slots_at (map slots_held seats) n)) (ap (staged_at n) same ∙ sym (staged_read n seats staging within))

pub is_as_well : {E : Type 0} (r : Result SeatState E) (a b : SeatState) → a ≡ b → IfOk r (λ x. x ≡ a) → IfOk r (λ x. x ≡ b)
is_as_well r a b is given = subst (λ (y : SeatState). IfOk r (λ x. x ≡ y)) is given
