-- A step worked backwards gives the lists as they were.
use Rattle.std.proofs.Common.{◌≡◌, ℕ, ◌+◌, ◌-◌, ◌<◌, ◌≤◌, List, [], ◌∷◌, ◌++◌, Option, None, Some, length, take, refl, sym, ◌∙◌, ap, arith}
use Rattle.std.specs.Prelude.{IsNone, slice_set}
use Rattle.rights_model.specs.amount_math.Amount.{holding}
use Rattle.rights_model.specs.amount_math.Content.{Content, Contains, difference-sum, sum-difference}
use Rattle.rights_model.specs.amount_math.Held.{more_room}
use Rattle.rights_model.specs.amount_math.ValueView.{ValueView}
use Rattle.rights_model.specs.amount_math.declared.Amount.{Amount}
use Rattle.rights_model.specs.amount_math.declared.Kind.{Kind}
use Rattle.rights_model.specs.amount_math.declared.Kind.TheVariants.{Nat}
use Rattle.holders.specs.ertp_mint.BrandSupply.{new_supply, supply_at}
use Rattle.holders.specs.ertp_mint.Circulating.{issued_back, retired_back, unissued, unretired}
use Rattle.holders.specs.ertp_mint.Stocks.{empty_amount, no_amount}
use Rattle.holders.specs.PaymentViews.{spent_payment}
use Rattle.rights_model.specs.declared.Holder.{Holder}
use Rattle.rights_model.specs.declared.Holder.TheVariants.{Purse, Payment, Slot, Hand, Outside}
use Rattle.rights_model.specs.declared.Movement.{Movement}
use Rattle.vault_model.specs.declared.Undo.{Undo}
use Rattle.vault_model.specs.declared.Undo.TheVariants.{Moves, OpensPurse, AddsBrand, OpensSeat, OpensSlot, ClosesSeat}
use Rattle.vault_model.specs.Backwards.{Rooms, HasGrown, CanUntake, CanUngive, CanAllBack}
use Rattle.vault_model.specs.Lists.{Lists, CanGive, CanTake, back, given, less, more, purse_at, slot_of, taken, ungiven, untaken, with_closed_seat, with_new_brand, with_new_purse, with_new_seat, with_new_slot, with_outs, with_payments, with_purses, with_reopened_seat, with_seats, with_slot_of, without_last_brand, without_last_purse, without_last_seat, without_last_slot_of}
use Rattle.vault_model.specs.Seats.{HasSlotOf, IsOpenSeat, KeptSeat, kept_seat_at, new_kept_seat, no_kept_seat, with_slots}
use Rattle.vault_model.proofs.SlotShares.{slot_back}
use Rattle.proposals.specs.Shares.{keyed_share}
use Rattle.proposals.specs.Slots.{emptied, slots_of}
use Rattle.proposals.specs.declared.allocations.Share.{Share}
use Rattle.proposals.specs.declared.offers.Proposal.{Proposal}
use Rattle.lemmas.proofs.ListEdits.{length_map, length_push, read_pushed, read_set, set_same, set_set, take_all_but, without_pushed, written_back}

more_less : (a : Amount) (c : Content) → Contains a.value.content c → more (less a c) c ≡ a
more_less a c has = ap (holding a) (sum-difference a.value.content c has)

less_more : (a : Amount) (c : Content) → less (more a c) c ≡ a
less_more a c = ap (holding a) (difference-sum a.value.content c)

slot_undone : (s : Lists) (n : ℕ) (k : List ℕ) → HasSlotOf s.seats n k → (f : Amount → Amount) (a : Amount) → f a ≡ slot_of s n k → with_slot_of (with_slot_of s n k a) n k (f (slot_of (with_slot_of s n k a) n k)) ≡ s
slot_undone s n k has f a is = ap (with_seats s) (slot_back s.seats n k has f a is)

pub untaken-taken : (s : Lists) (h : Holder) (b : ℕ) (w : ValueView) → CanTake s h b w → untaken (taken s h b w) h b w ≡ s
untaken-taken s (Purse n) b w can = ap (with_purses s) (written_back s.purses n no_amount (less (purse_at s.purses n) w.content) can.made (λ a. more a w.content) (more_less (purse_at s.purses n) w.content can.has))
untaken-taken s (Payment n) b w can = ap (with_payments s) (
    set_set s.payments n _ _
    ∙ ap (slice_set s.payments n) (sym can.is)
    ∙ set_same s.payments n (spent_payment 0)
    )
untaken-taken s (Slot n keyword) b w can = slot_undone s n keyword can.slot (λ a. more a w.content) (less (slot_of s n keyword) w.content) (more_less (slot_of s n keyword) w.content can.has)
untaken-taken s Hand b w can = absurd can
untaken-taken s Outside b w can = ap (with_outs s) (written_back s.out b (new_supply Nat) _ can.made (λ x. unissued x w.content) (issued_back (supply_at s.out b) w.content))

pub ungiven-given : (s : Lists) (h : Holder) (b : ℕ) (w : ValueView) → CanGive s h b w → ungiven (given s h b w) h b w ≡ s
ungiven-given s (Purse n) b w can = ap (with_purses s) (written_back s.purses n no_amount (more (purse_at s.purses n) w.content) can.made (λ a. less a w.content) (less_more (purse_at s.purses n) w.content))
ungiven-given s (Payment n) b w can = ap (with_payments s) (take_all_but s.payments _ n can)
ungiven-given s (Slot n keyword) b w can = slot_undone s n keyword can.slot (λ a. less a w.content) (more (slot_of s n keyword) w.content) (less_more (slot_of s n keyword) w.content)
ungiven-given s Hand b w can = absurd can
ungiven-given s Outside b w can = ap (with_outs s) (written_back s.out b (new_supply Nat) _ can.made (λ x. unretired x w.content) (retired_back (supply_at s.out b) w.content can.has))

pub unopened : (s : Lists) (b : ℕ) (kind : Kind) → without_last_purse (with_new_purse s b kind) ≡ s
unopened s b kind = ap (with_purses s) (without_pushed s.purses _)

pub unseated : (s : Lists) (instance : ℕ) (proposal : Proposal) → without_last_seat (with_new_seat s instance proposal) ≡ s
unseated s instance proposal = λ i. record {
  purses = s.purses;
  payments = s.payments;
  seats = without_pushed s.seats (new_kept_seat instance proposal) i;
  owed = owes i;
  out = s.out;
}
  where
    last : kept_seat_at (s.seats ++ new_kept_seat instance proposal ∷ []) (length (s.seats ++ new_kept_seat instance proposal ∷ []) - 1) ≡ new_kept_seat instance proposal
    last = read_pushed s.seats (new_kept_seat instance proposal) no_kept_seat _ (omega (arith, length_push s.seats (new_kept_seat instance proposal)))

    owes : s.owed + length (slots_of proposal) - length (kept_seat_at (s.seats ++ new_kept_seat instance proposal ∷ []) (length (s.seats ++ new_kept_seat instance proposal ∷ []) - 1)).slots ≡ s.owed
    owes = omega (arith, ap (λ (x : KeptSeat). length x.slots) last, length_map emptied (slots_of proposal))

module _ (s : Lists) (n : ℕ) (made : n < length s.seats) where
  abbrev seat : KeptSeat
  seat = kept_seat_at s.seats n

  pub unopened_slot : (keyword : List ℕ) (b : ℕ) (kind : Kind) → without_last_slot_of n (with_new_slot s n keyword b kind) ≡ s
  unopened_slot keyword b kind = λ i. record {
    purses = s.purses;
    payments = s.payments;
    seats = written_back s.seats n no_kept_seat (with_slots seat (seat.slots ++ keyed_share keyword (empty_amount b kind) ∷ [])) made (λ x. with_slots x (take (length x.slots - 1) x.slots)) (ap (with_slots seat) (without_pushed seat.slots (keyed_share keyword (empty_amount b kind)))) i;
    owed = owes i;
    out = s.out;
  }
    where
      owes : s.owed + 1 - 1 ≡ s.owed
      owes = omega arith

  abbrev closed : KeptSeat
  closed = record seat { last = Some seat.slots }

  was_open : (o : Option (List Share)) → IsNone o → None ≡ o
  was_open None none = refl
  was_open (Some x) none = absurd cc

  pub reopened : IsOpenSeat seat → length seat.slots ≤ s.owed → with_reopened_seat n (with_closed_seat s n) ≡ s
  reopened is owed = λ i. record {
    purses = s.purses;
    payments = s.payments;
    seats = written_back s.seats n no_kept_seat closed made (λ x. record x { last = None }) (ap (λ (o : Option (List Share)). record seat { last = o }) (was_open seat.last is)) i;
    owed = owes i;
    out = s.out;
  }
    where
      owes : s.owed - length seat.slots + length (kept_seat_at (slice_set s.seats n closed) n).slots ≡ s.owed
      owes = omega (arith, owed, ap (λ (x : KeptSeat). length x.slots) (read_set s.seats n closed no_kept_seat made))

pub unadded : (s : Lists) (kind : Kind) → without_last_brand (with_new_brand s kind) ≡ s
unadded s kind = ap (with_outs s) (without_pushed s.out _)

-- ---- what can be worked backwards stays so, since room only grows

module _ (R Q : Rooms) (grown : HasGrown R Q) where
  untake_grows : (s : Lists) (h : Holder) (b : ℕ) (w : ValueView) → CanUntake R s h b w → CanUntake Q s h b w
  untake_grows s (Purse n) b w can = record {
    made = can.made;
    goes = record { meet = can.goes.meet; value = can.goes.value; room = more_room (purse_at s.purses n).value.kind _ (R.purses n) (Q.purses n) (grown.purses n) can.goes.room };
  }
  untake_grows s (Payment n) b w can = record { made = can.made; spent = can.spent; vacancy = omega (arith, can.vacancy, grown.capacity) }
  untake_grows s (Slot n keyword) b w can = record {
    slot = can.slot;
    goes = record { meet = can.goes.meet; value = can.goes.value; room = more_room (slot_of s n keyword).value.kind _ (R.slots n keyword) (Q.slots n keyword) (grown.slots n keyword) can.goes.room };
  }
  untake_grows s Hand b w can = can
  untake_grows s Outside b w can = can

  ungive_grows : (s : Lists) (h : Holder) (b : ℕ) (w : ValueView) → CanUngive R s h b w → CanUngive Q s h b w
  ungive_grows s (Purse n) b w can = can
  ungive_grows s (Payment n) b w can = can
  ungive_grows s (Slot v keyword) b w can = can
  ungive_grows s Hand b w can = can
  ungive_grows s Outside b w can = can

  pub all_grows : (s : Lists) (ks : List Undo) (ms : List Movement) → CanAllBack R s ks ms → CanAllBack Q s ks ms
  all_grows s [] ms can = can
  all_grows s (Moves ∷ ks) [] can = can
  all_grows s (Moves ∷ ks) (m ∷ ms) can = (
    record {
      ungive = ungive_grows s m.to m.brand m.value can.0.ungive;
      untake = untake_grows (ungiven s m.to m.brand m.value) m.from m.brand m.value can.0.untake;
      made = can.0.made;
      kind = can.0.kind;
      has = can.0.has;
      out = can.0.out;
      room = more_room m.value.kind _ (R.hand m.brand) (Q.hand m.brand) (grown.hand m.brand) can.0.room;
    },
    all_grows (back s m) ks ms can.1,
  )
  all_grows s (OpensPurse ∷ ks) ms can = (can.0, all_grows (without_last_purse s) ks ms can.1)
  all_grows s (AddsBrand ∷ ks) ms can = (can.0, all_grows (without_last_brand s) ks ms can.1)
  all_grows s (OpensSeat ∷ ks) ms can = (can.0, all_grows (without_last_seat s) ks ms can.1)
  all_grows s (OpensSlot n ∷ ks) ms can = (can.0, all_grows (without_last_slot_of n s) ks ms can.1)
  all_grows s (ClosesSeat n ∷ ks) ms can = (can.0, all_grows (with_reopened_seat n s) ks ms can.1)
