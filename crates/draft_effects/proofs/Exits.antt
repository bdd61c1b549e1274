-- The slots of a closed seat can be paid out one after another, and what that makes of a draft.
use Rattle.std.specs.Prelude.{cond, is_some, slice_set, unwrap_or}
use Rattle.std.proofs.Common.{◌≡◌, ℕ, zero, suc, ◌+◌, ◌-◌, ◌<◌, ◌≤◌, true, false, List, [], ◌∷◌, ◌++◌, None, Option, Some, length, map, refl, sym, ◌∙◌, ap, subst, arith}
use Rattle.draft_reads.specs.amount_math.Content.{Contains, Contains-refl}
use Rattle.draft_reads.specs.amount_math.declared.Amount.{Amount}
use Rattle.draft_reads.specs.ertp_mint.Stocks.{most_made, no_amount}
use Rattle.draft_reads.proofs.lemmas.ListEdits.{length_map, length_push, length_set, read_set}
use Rattle.draft_reads.specs.holders.PaymentViews.{live_payment}
use Rattle.draft_reads.specs.proposals.Shares.{AreApart, amount_under}
use Rattle.draft_reads.specs.proposals.Slots.{emptied}
use Rattle.draft_reads.specs.proposals.declared.allocations.Share.{Share}
use Rattle.draft_reads.specs.rights_model.declared.Holder.TheVariants.{Payment, Slot}
use Rattle.draft_reads.specs.rights_model.declared.Movement.{Movement}
use Rattle.draft_reads.specs.rights_model.Table.{movement}
use Rattle.draft_reads.specs.vault_model.Lists.{CanTake, Lists, less, slot_of, taken, with_closed_seat, with_new_slot}
use Rattle.draft_reads.specs.vault_model.Seats.{KeptSeat, amount_at, kept_seat_at, no_kept_seat, with_amount, with_slots}
use Rattle.draft_reads.proofs.vault_model.Sound.{owes_its_slots}
use Rattle.draft_reads.specs.world_laws.Views.{all_by_hand, by_hand, put_to, rights_of, seat_of, seats_of, slots_held}
use Rattle.draft_reads.proofs.world_laws.LeftViews.{AreFree, emptied_among, found_among, free_more, free_of_none, left_paid}
use Rattle.draft_reads.proofs.world_laws.Views.{seat_closed, slots_read}
use Rattle.draft_reads.specs.seats.Staging.{staged_at, without_staged}
use Rattle.draft_reads.specs.seats.Store.{AreOpen}
use Rattle.draft_reads.specs.seats.Seats.{SeatView}
use Rattle.draft_reads.specs.vault.Drafts.{DraftState, IsClean, IsOfBrand, IsValid, hand_now, opened, with_staging}
use Rattle.draft_reads.specs.vault.Memory.{kept_seat}
use Rattle.draft_reads.proofs.vault.SeatReads.{seat_read}
use Rattle.draft_reads.specs.world_state.Good.{AreSharesOf}
use Rattle.draft_reads.specs.world_state.Rights.{slots_at}
use Rattle.draft_reads.specs.world_state.Worlds.{IsOpen, Seat, payout_moves, rights_left, seat_at, seats_left}
use Rattle.draft_reads.specs.Views.{HasNow, rights_in, seats_in, staged_from, staging_in}
use Rattle.draft_reads.proofs.Staged.{let_go_apart, staged_long, staged_set}
use Rattle.draft_effects.specs.Steps.{CanMoveByHand, CanMoveEach, IsAfter, MayArrive}
use Rattle.draft_effects.proofs.TransferSequences.{open_here, seats_all}

-- ---- a slot is paid out whole

module _ (s : Lists) (n p : ℕ) (done : List Share) (r : Share) (rs : List Share) (made : n < length s.seats) (shares : (kept_seat_at s.seats n).slots ≡ done ++ r ∷ rs) (free : amount_under r.keyword done ≡ None) where
  abbrev pays : Movement
  pays = movement r.amount.brand (Slot n r.keyword) (Payment p) r.amount.value

  abbrev wide : Lists
  wide = with_new_slot s n r.keyword r.amount.brand r.amount.value.kind

  abbrev emptied_seat : KeptSeat
  emptied_seat = with_slots (kept_seat_at s.seats n) (with_amount r.keyword (less (slot_of s n r.keyword) r.amount.value.content) (kept_seat_at s.seats n).slots)

  abbrev paid_slot : Lists
  paid_slot = put_to (taken s (Slot n r.keyword) r.amount.brand r.amount.value) (Payment p) r.amount

  found : amount_under r.keyword (kept_seat_at s.seats n).slots ≡ Some r.amount
  found = ap (λ l. amount_under r.keyword l) shares ∙ found_among done r rs free

  at : slot_of s n r.keyword ≡ r.amount
  at = ap (λ o. unwrap_or o no_amount) found

  pays_so : by_hand s pays ≡ paid_slot
  pays_so = ap (λ t. put_to (taken (cond t s wide) (Slot n r.keyword) r.amount.brand r.amount.value) (Payment p) r.amount) (ap is_some found)

  pub paid_shares : (kept_seat_at paid_slot.seats n).slots ≡ (done ++ emptied r ∷ []) ++ rs
  paid_shares =
      ap slots_held (read_set s.seats n emptied_seat no_kept_seat made)
      ∙ ap (λ l. with_amount r.keyword (less (amount_at r.keyword l) r.amount.value.content) l) shares
      ∙ emptied_among done r rs free

  clash : true ≡ false → ⊥
  clash e = cc

  pub slot_can : IsOfBrand s r.amount.brand r.amount.value → p ≡ length s.payments → length s.payments + s.owed < most_made → CanMoveByHand s pays
  slot_can brand next left = record {
    brand = brand;
    leaves = record { made = made; opens = λ none. absurd (clash (sym (ap is_some found) ∙ none)) };
    take = subst (λ t. CanTake (cond t s wide) (Slot n r.keyword) r.amount.brand r.amount.value) (sym (ap is_some found)) (record {
      slot = record { made = made; there = ap is_some found };
      brand = ap (λ (x : Amount). x.brand) at;
      kind = ap (λ (x : Amount). x.value.kind) at;
      has = subst (λ (x : Amount). Contains x.value.content r.amount.value.content) (sym at) (Contains-refl r.amount.value.content);
    });
    arrives = subst (λ t. MayArrive (taken (cond t s wide) (Slot n r.keyword) r.amount.brand r.amount.value) (Payment p) r.amount) (sym (ap is_some found)) (record { put = record { next = next; left = left }; value = tt });
  }

-- ---- and so are all

pub shares_can : (s : Lists) (n p : ℕ) (done rest : List Share) → n < length s.seats → (kept_seat_at s.seats n).slots ≡ done ++ rest → AreFree done rest → AreApart rest → AreSharesOf s.out rest → p ≡ length s.payments → length s.payments + s.owed + length rest ≤ most_made → CanMoveEach s (payout_moves n p rest)
shares_can s n p done [] made shares free apart brands next left = tt
shares_can s n p done (r ∷ rs) made shares free apart brands next left = (
  slot_can s n p done r rs made shares free.0 (record { made = brands.0.made; kind = brands.0.kind }) next (omega (arith, left)),
  subst (λ (x : Lists). CanMoveEach x (payout_moves n (suc p) rs)) (sym (pays_so s n p done r rs made shares free.0))
      (shares_can (paid_slot s n p done r rs made shares free.0) n (suc p) (done ++ emptied r ∷ []) rs
      (omega (arith, made, length_set s.seats n (emptied_seat s n p done r rs made shares free.0)))
      (paid_shares s n p done r rs made shares free.0)
      (free_more done r rs apart.0 free.1)
      apart.1
      brands.1
      (omega (arith, next, length_push s.payments (live_payment r.amount)))
      (omega (arith, left, length_push s.payments (live_payment r.amount)))),
)

-- a seat that is open was made
open_made : (seats : List Seat) (n : ℕ) → IsOpen (seat_at seats n) → n < length seats
open_made [] n is = absurd cc
open_made (s ∷ ss) zero is = omega arith
open_made (s ∷ ss) (suc n) is = omega (arith, open_made ss n is)

pub made_here : (d : DraftState) (n : ℕ) → IsOpen (seat_at (seats_in d) n) → n < length d.now.seats
made_here d n is = omega (arith, open_made (seats_in d) n is, length_map seat_of d.now.seats)

-- ---- a seat that was just closed

abbrev pub closed : DraftState → ℕ → DraftState
closed d n = with_staging (opened d (with_closed_seat d.now n)) (without_staged n d.staging)

module _ (d : DraftState) (n : ℕ) (made : n < length d.now.seats) where
  abbrev shares : List Share
  shares = slots_at (rights_in d).slots n

  abbrev shut : KeptSeat
  shut = record (kept_seat_at d.now.seats n) { last = Some (kept_seat_at d.now.seats n).slots }

  pub shares_are : shares ≡ (kept_seat_at d.now.seats n).slots
  shares_are = slots_read d.now.seats n

  pub closed_can : IsOpen (seat_at (seats_in d) n) → IsValid d → AreApart shares → AreSharesOf (rights_in d).out shares → length d.now.payments + d.now.owed ≤ most_made → CanMoveEach (closed d n).now (payout_moves n (length d.now.payments) shares)
  closed_can is valid apart brands few = shares_can (closed d n).now n (length d.now.payments) [] shares
      (omega (arith, made, length_set d.now.seats n shut))
      (ap slots_held (read_set d.now.seats n shut no_kept_seat made) ∙ sym shares_are)
      (free_of_none shares)
      apart brands refl
      (room (length d.now.payments) d.now.owed (length (kept_seat_at d.now.seats n).slots) (length shares) few (owes_its_slots d.now (hand_now d) valid.sound n made (open_here d.now n made is)) (ap length shares_are))
    where
      room : (a o k m : ℕ) → a + o ≤ most_made → k ≤ o → m ≡ k → a + (o - k) + m ≤ most_made
      room a o k m few owed is = omega (arith, few, owed, is)

  pub slots_few : IsOpen (seat_at (seats_in d) n) → IsValid d → length d.now.payments + d.now.owed ≤ most_made → length d.now.payments + length shares ≤ most_made
  slots_few is valid few = omega (arith, few, ap length shares_are, owes_its_slots d.now (hand_now d) valid.sound n made (open_here d.now n made is))

  pub closed_clean : IsClean d → IsClean (closed d n)
  closed_clean clean = record { sound = clean.sound; hand = clean.hand }

  -- what is staged of it is let go
  module _ (seats : List SeatView) (listed : map kept_seat seats ≡ (closed d n).now.seats) (are : AreOpen seats (closed d n).staging) where
    none_staged : staged_at n (closed d n).staging ≡ None
    none_staged = by (staged_at n (closed d n).staging) refl
      where
        gone : kept_seat_at (map kept_seat seats) n ≡ shut
        gone = ap (λ l. kept_seat_at l n) listed ∙ read_set d.now.seats n shut no_kept_seat made

        clash : true ≡ false → ⊥
        clash e = cc

        by : (o : Option (List Share)) → staged_at n (closed d n).staging ≡ o → o ≡ None
        by None is = refl
        by (Some x) is = absurd (clash (sym (ap (λ (k : KeptSeat). is_some k.last) (sym (seat_read seats n) ∙ gone)) ∙ are.is_open n (ap is_some is)))

    staged_left : staged_from 0 (closed d n).now.seats (closed d n).staging ≡ slice_set (staging_in d) n None
    staged_left =
        staged_long 0 (closed d n).now.seats d.now.seats (closed d n).staging (length_set d.now.seats n shut)
        ∙ staged_set n d.now.seats None d.staging (closed d n).staging none_staged (λ p apart. let_go_apart n p apart d.staging)

    pub left_now : (new : DraftState) → AreApart shares → IsAfter (closed d n) new (all_by_hand (closed d n).now (payout_moves n (length d.now.payments) shares)) → HasNow new (rights_left (rights_in d) n) (seats_left (seats_in d) n shares) (slice_set (staging_in d) n None)
    left_now new apart made_all = record {
      rights = ap rights_of made_all.now ∙ left_paid d.now n made apart;
      seated = ap seats_of made_all.now ∙ seats_all (closed d n).now moves ∙ seat_closed d.now n made;
      staged =
          (λ i. staged_from 0 (made_all.now i).seats (made_all.staging i))
          ∙ staged_long 0 (all_by_hand (closed d n).now moves).seats (closed d n).now.seats (closed d n).staging
          (omega (arith, ap length (seats_all (closed d n).now moves), length_map seat_of (all_by_hand (closed d n).now moves).seats, length_map seat_of (closed d n).now.seats))
          ∙ staged_left;
      clean = made_all.clean;
    }
      where
        moves : List Movement
        moves = payout_moves n (length d.now.payments) shares
