-- Seats as the stores have them are what the world's plans are made from.
use Rattle.std.specs.Prelude.{slice_index_or, unwrap_or, is_none, is_some, IfOk, IsSome, All, Result}
use Rattle.std.specs.Map.{keys_of}
use Rattle.std.specs.Ordering.{eq_by_cmp, nat_cmp}
use Rattle.std.proofs.Common.{◌⊎◌, inl, inr, ◌≡◌, ℕ, zero, suc, ◌<◌, ◌≤◌, ◌++◌, true, false, List, [], ◌∷◌, Option, None, length, map, refl, sym, ap, subst, ◌∙◌, arith}
use Rattle.std.proofs.lemmas.Bool.{cases_lt, false≢true}
use Rattle.std.proofs.lemmas.Bool.Decides.{nat_tests}
use Rattle.std.proofs.lemmas.Map.Views.{All-keys_from_lookup, Contains-keys_from_lookup}
use Rattle.std.proofs.lemmas.Cmp.{eq_by_cmp_equiv, nat_cmp_total}
use Rattle.std.proofs.lemmas.List.Elements.{All-append}
use Rattle.share_transfers.proofs.contract_reads.Allocated.{staged_read}
use Rattle.world_reads.specs.draft_reads.Views.{staged_from}
use Rattle.rearrange.proofs.lemmas.ListEdits.{length_map, read_map}
use Rattle.rules.specs.proposals.declared.allocations.Share.{Share}
use Rattle.rules.specs.proposals.declared.plans.SeatState.{SeatState}
use Rattle.world_reads.proofs.draft_reads.WorldLists.{seat_read, world_seat}
use Rattle.rules.specs.vault_model.Seats.{KeptSeat, no_kept_seat}
use Rattle.share_transfers.specs.world_laws.Views.{seat_of, slots_held}
use Rattle.world_reads.specs.seats.Seats.{SeatView}
use Rattle.world_reads.specs.seats.Slots.{shares_in}
use Rattle.world_reads.specs.seats.Staging.{staged_at}
use Rattle.world_reads.specs.seats.Store as store
use Rattle.world_reads.specs.vault.Memory.{kept_seat}
use Rattle.rules.specs.world_state.Rights.{slots_at}
use Rattle.rules.specs.world_state.Worlds.{Seat, State, seat_at}
use Rattle.rearrange_calls.specs.Among.{HaveAll, IsAmong}

-- ---- one seat

abbrev pub as_state : ℕ → Seat → List Share → Option (List Share) → SeatState
as_state n s shares staged = record {
  seat = n;
  instance = s.instance;
  proposal = s.proposal;
  allocation = unwrap_or s.last shares;
  staged = staged;
  is_open = is_none s.last;
}

slots_read : (ss : List SeatView) (n : ℕ) → slots_at (map slots_held (map kept_seat ss)) n ≡ shares_in (store.seat_at ss n).slots
slots_read ss n = read_map slots_held (map kept_seat ss) n no_kept_seat ∙ ap slots_held (read_map kept_seat ss n store.no_seat)

pub state_read : (view : store.SeatsView) (seats : List KeptSeat) (staging : List (ℕ × List Share)) (n : ℕ) → map kept_seat view.seats ≡ seats → view.staging ≡ staging → n < length (map seat_of seats) → store.state_of n view ≡ as_state n (seat_at (map seat_of seats) n) (slots_at (map slots_held seats) n) (slice_index_or (staged_from 0 seats staging) n None)
state_read view seats staging n is same within =
    let there : seat_at (map seat_of seats) n ≡ world_seat (store.seat_at view.seats n) =
    subst (λ (ks : List KeptSeat). seat_at (map seat_of ks) n ≡ world_seat (store.seat_at view.seats n)) is
    (seat_read view.seats n (omega (arith, within, length_map seat_of seats, ap length is, length_map kept_seat view.seats))) in
    let slots : slots_at (map slots_held seats) n ≡ shares_in (store.seat_at view.seats n).slots =
    subst (λ (ks : List KeptSeat). slots_at (map slots_held ks) n ≡ shares_in (store.seat_at view.seats n).slots) is (slots_read view.seats n) in
    ap (λ (s : Seat). as_state n s (shares_in (store.seat_at view.seats n).slots) (staged_at n view.staging)) (sym there)
    ∙ ap (λ (shares : List Share). as_state n (seat_at (map seat_of seats) n) shares (staged_at n view.staging)) (sym slots)
    ∙ ap (as_state n (seat_at (map seat_of seats) n) (slots_at (map slots_held seats) n)) (ap (staged_at n) same ∙ sym (staged_read n seats staging within))

pub is_as_well : {E : Type 0} (r : Result SeatState E) (a b : SeatState) → a ≡ b → IfOk r (λ x. x ≡ a) → IfOk r (λ x. x ≡ b)
is_as_well r a b is given = subst (λ (y : SeatState). IfOk r (λ x. x ≡ y)) is given

-- ---- all of which something is staged

among_first : (n : ℕ) (ms ns : List ℕ) → IsAmong n ms → IsAmong n (ms ++ ns)
among_first n [] ns is = absurd is
among_first n (m ∷ ms) ns (inl same) = inl same
among_first n (m ∷ ms) ns (inr more) = inr (among_first n ms ns more)

among_second : (n : ℕ) (ms ns : List ℕ) → IsAmong n ns → IsAmong n (ms ++ ns)
among_second n [] ns is = is
among_second n (m ∷ ms) ns is = inr (among_second n ms ns is)

among_at : (n : ℕ) (ns : List ℕ) (k : ℕ) → k < length ns → slice_index_or ns k n ≡ n → IsAmong n ns
among_at n [] k lt is = absurd (omega (arith, lt))
among_at n (m ∷ ms) zero lt is = inl is
among_at n (m ∷ ms) (suc k) lt is = inr (among_at n ms k (omega (arith, lt)) is)

same_keys : (x y : ℕ) → eq_by_cmp nat_cmp x y ≡ true → x ≡ y
same_keys x y is = grind (arith, nat_tests, is)

key_among : (n : ℕ) (staging : List (ℕ × List Share)) → IsSome (staged_at n staging) → IsAmong n (keys_of staging)
key_among n staging some = let there = Contains-keys_from_lookup {eq = eq_by_cmp nat_cmp} same_keys n staging some in among_at n (keys_of staging) there.0 there.1 there.2

none_past : (m n : ℕ) (ks : List KeptSeat) (staging : List (ℕ × List Share)) → length ks ≤ n → slice_index_or (staged_from m ks staging) n None ≡ None
none_past m n [] staging past = refl
none_past m zero (k ∷ ks) staging past = absurd (omega (arith, past))
none_past m (suc n) (k ∷ ks) staging past = none_past (suc m) n ks staging (omega (arith, past))

staged_among : (n : ℕ) (seats : List KeptSeat) (staging : List (ℕ × List Share)) → IsSome (slice_index_or (staged_from 0 seats staging) n None) → IsAmong n (keys_of staging)
staged_among n seats staging some = by (cases_lt n (length seats))
  where
    by : (n < length seats) ⊎ (length seats ≤ n) → IsAmong n (keys_of staging)
    by (inl lt) = key_among n staging (subst (λ o. is_some o ≡ true) (staged_read n seats staging (omega (arith, lt, length_map seat_of seats))) some)
    by (inr past) = absurd (false≢true (ap is_some (sym (none_past 0 n seats staging past)) ∙ some))

pub have_all : (w : State) (seats : List KeptSeat) (staging : List (ℕ × List Share)) (ns : List ℕ) → w.seats ≡ map seat_of seats → w.staging ≡ staged_from 0 seats staging → All (λ n. n < length w.seats) ns → ((n : ℕ) → IsSome (staged_at n staging) → n < length w.seats) → HaveAll w ns (ns ++ keys_of staging)
have_all w seats staging ns seated staged made keys_made = record {
  made = All-append (λ n. n < length w.seats) ns (keys_of staging) made (All-keys_from_lookup (eq_by_cmp_equiv nat_cmp_total) (λ n. n < length w.seats) staging keys_made);
  listed = λ n is. among_first n ns (keys_of staging) is;
  staged = λ n some. among_second n ns (keys_of staging) (staged_among n seats staging (subst (λ (l : List (Option (List Share))). IsSome (slice_index_or l n None)) staged some));
}
