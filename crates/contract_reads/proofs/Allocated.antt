-- What an open seat has and what is staged of it, as the world has them.
use Rattle.std.proofs.Common.{◌≡◌, ℕ, zero, suc, ◌+◌, ◌<◌, List, [], ◌∷◌, Option, Some, None, length, map, refl, sym, ap, ◌∙◌, subst, arith}
use Rattle.std.specs.Prelude.{IfOk, IsSome, Result, slice_index_or, unwrap_or}
use Rattle.host_world.specs.draft_reads.Views.{staged_from}
use Rattle.rules.proofs.lemmas.ListEdits.{length_map, read_map}
use Rattle.rules.specs.proposals.declared.allocations.Share.{Share}
use Rattle.host_world.proofs.draft_reads.WorldLists.{seat_read, world_seat}
use Rattle.rules.specs.vault_model.Seats.{KeptSeat, no_kept_seat}
use Rattle.rule_laws.specs.world_laws.Views.{seat_of, slots_held}
use Rattle.host_world.specs.seats.Seats.{SeatView, allocation_of}
use Rattle.host_world.specs.seats.Slots.{shares_in}
use Rattle.host_world.specs.seats.Staging.{staged_at}
use Rattle.host_world.specs.seats.Store as store
use Rattle.host_world.specs.vault.Memory.{kept_seat}
use Rattle.rules.specs.world_state.Rights.{slots_at}
use Rattle.rules.specs.world_state.Worlds.{Seat, seat_at}

-- ---- what it has

slots_read : (ss : List SeatView) (n : ℕ) → slots_at (map slots_held (map kept_seat ss)) n ≡ shares_in (store.seat_at ss n).slots
slots_read ss n = read_map slots_held (map kept_seat ss) n no_kept_seat ∙ ap slots_held (read_map kept_seat ss n store.no_seat)

pub last_read : (ss : List SeatView) (seats : List KeptSeat) (n : ℕ) → map kept_seat ss ≡ seats → n < length (map seat_of seats) → (seat_at (map seat_of seats) n).last ≡ (store.seat_at ss n).last
last_read ss seats n is within = subst (λ (ks : List KeptSeat). (seat_at (map seat_of ks) n).last ≡ (store.seat_at ss n).last) is
    (ap (λ (s : Seat). s.last) (seat_read ss n (omega (arith, within, length_map seat_of seats, ap length is, length_map kept_seat ss))))

pub open_allocation : (ss : List SeatView) (seats : List KeptSeat) (n : ℕ) → map kept_seat ss ≡ seats → n < length (map seat_of seats) → (seat_at (map seat_of seats) n).last ≡ None → allocation_of (store.seat_at ss n) ≡ slots_at (map slots_held seats) n
open_allocation ss seats n is within open_now =
    ap (λ (o : Option (List Share)). unwrap_or o (shares_in (store.seat_at ss n).slots)) (sym (last_read ss seats n is within) ∙ open_now)
    ∙ sym (slots_read ss n)
    ∙ ap (λ (ks : List KeptSeat). slots_at (map slots_held ks) n) is

-- ---- what is staged of it

staged_read_from : (m n : ℕ) (ss : List KeptSeat) (xs : List (ℕ × List Share)) → n < length ss → slice_index_or (staged_from m ss xs) n None ≡ staged_at (m + n) xs
staged_read_from m n [] xs within = absurd (omega arith)
staged_read_from m zero (s ∷ ss) xs within = ap (λ k. staged_at k xs) (omega arith)
staged_read_from m (suc n) (s ∷ ss) xs within = staged_read_from (suc m) n ss xs (omega arith) ∙ ap (λ k. staged_at k xs) (omega arith)

pub staged_read : (n : ℕ) (seats : List KeptSeat) (xs : List (ℕ × List Share)) → n < length (map seat_of seats) → slice_index_or (staged_from 0 seats xs) n None ≡ staged_at n xs
staged_read n seats xs within =
    let same : 0 + n ≡ n = omega arith in
    staged_read_from 0 n seats xs (omega (arith, within, length_map seat_of seats)) ∙ ap (λ (k : ℕ). staged_at k xs) same

pub is_none_left : {A : Type 0} (o : Option A) → o ≡ None → IsSome o → ⊥
is_none_left None is some = cc
is_none_left (Some x) is some = cc

pub as_well : {E : Type 0} (r : Result (List Share) E) (a b : List Share) → a ≡ b → IfOk r (λ x. x ≡ a) → IfOk r (λ x. x ≡ b)
as_well r a b is given = subst (λ (y : List Share). IfOk r (λ x. x ≡ y)) is given
