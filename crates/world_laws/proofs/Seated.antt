-- Seats keep their slots, under keywords of their own, with promises and staging beside them; what open ones have covers what it is to; what is staged is of the brands of slots.
use Rattle.std.specs.Prelude.{slice_set}
use Rattle.std.specs.List.{AllByRecursion}
use Rattle.std.specs.Str.{bytes_eq}
use Rattle.std.proofs.Common.{◌≡◌, ◌≢◌, inl, inr, ℕ, ◌<◌, List, [], ◌∷◌, ◌++◌, Some, None, Option, length, map, refl, sym, ◌∙◌, ap, subst, arith}
use Rattle.std.proofs.lemmas.Bool.{cases_eq}
use Rattle.world_state.proofs.lemmas.ListEdits.{length_push, length_set, read_before, read_other, read_pushed, read_set}
use Rattle.world_state.specs.amount_math.Amount.{holding}
use Rattle.world_state.specs.amount_math.Content.{Content, nothing}
use Rattle.world_state.specs.amount_math.ValueView.{ValueView}
use Rattle.world_state.specs.amount_math.declared.Amount.{Amount}
use Rattle.world_state.specs.proposals.OfferSafety.{IsOfferSafe}
use Rattle.world_state.specs.proposals.Shares.{AreApart, AreShares, amount_under, most_shares}
use Rattle.world_state.proofs.proposals.SlotLists.{AreShares-slots_of}
use Rattle.world_state.specs.proposals.Slots.{FitsSeat, emptied, slots_of}
use Rattle.world_state.specs.proposals.declared.offers.Proposal.{Proposal}
use Rattle.world_state.specs.proposals.declared.allocations.Share.{Share}
use Rattle.world_state.specs.rights_model.declared.Holder.{Holder}
use Rattle.world_state.specs.rights_model.declared.Holder.TheVariants.{Purse, Payment, Slot, Hand, Outside}
use Rattle.world_state.specs.rights_model.declared.Movement.{Movement}
use Rattle.world_state.specs.vault_model.Lists.{amount_of, less, more}
use Rattle.world_state.specs.vault_model.Tables.{no_hand}
use Rattle.world_state.specs.Good.{AreCovered, AreNamed, AreSeats, IsGoodEffect, IsGoodMove, IsGoodWorld, IsKeyword, IsNamedHolder}
use Rattle.world_state.specs.Rights.{CanGive, CanMoveAll, CanTake, HasOrOpens, Rights, TakesOrOpens, all_moved, given, hand_after, moved, slots_at, taken, with_slots}
use Rattle.world_state.specs.Worlds.{Effect, IsOpen, Seat, State, after, burn_and_escrows, empty_slots, left_seat, new_seat, next_pair, no_shares, no_seat, of_own, offered_by, seat_at, empty_seat, end_staging, exit, invite, moves, offer, stage, unstage}
use Rattle.world_laws.proofs.Instances.{open_made}
use Rattle.world_laws.proofs.Lists.{all_push, all_read_or, all_set, length_map}
use Rattle.world_laws.proofs.HeldKinds.{emptied_all, empty_slots_all}
use Rattle.world_laws.proofs.SlotShares.{shares_with_are, shares_with_named, skip}

-- ---- shares that are emptied

none_emptied : (q : List ℕ) (rs : List Share) → amount_under q rs ≡ None → amount_under q (map emptied rs) ≡ None
none_emptied q [] none = none
none_emptied q (r ∷ rs) none = skip (bytes_eq q r.keyword) r.amount (emptied r).amount (amount_under q rs) (amount_under q (map emptied rs)) (none_emptied q rs) none

apart_emptied : (rs : List Share) → AreApart rs → AreApart (map emptied rs)
apart_emptied [] apart = tt
apart_emptied (r ∷ rs) apart = (none_emptied r.keyword rs apart.0, apart_emptied rs apart.1)

pub emptied_are : (rs : List Share) → AreShares rs → AreShares (map emptied rs)
emptied_are rs is = record { few = omega (arith, is.few, length_map emptied rs); apart = apart_emptied rs is.apart }

pub empty_slots_are : (p : Proposal) → FitsSeat p → AreShares p.give → AreShares p.want → AreShares (empty_slots p)
empty_slots_are p fits give want = emptied_are (slots_of p) (AreShares-slots_of p fits give want)

-- ---- slots through movements

no_slots : AreShares []
no_slots = record { few = omega arith; apart = tt }

room_taken : (k : List ℕ) (rs : List Share) (b : ℕ) (w : ValueView) (o : Option Amount) → amount_under k rs ≡ o → HasOrOpens o rs b w → amount_under k rs ≡ None → length rs < most_shares
room_taken k rs b w None e can none = can.1
room_taken k rs b w (Some x) e can none = let clash : Some x ≡ None = sym e ∙ none in cc

room_given : (k : List ℕ) (rs : List Share) (b : ℕ) (w : ValueView) (o : Option Amount) → amount_under k rs ≡ o → TakesOrOpens o rs b w → amount_under k rs ≡ None → length rs < most_shares
room_given k rs b w None e can none = can.1
room_given k rs b w (Some x) e can none = let clash : Some x ≡ None = sym e ∙ none in cc

slots_taken : (r : Rights) (hand : ℕ → Content) (h : Holder) (b : ℕ) (w : ValueView) → CanTake r hand h b w → AllByRecursion AreShares r.slots → AllByRecursion AreShares (taken r h b w).slots
slots_taken r hand (Slot s k) b w can all =
    let rs = slots_at r.slots s in
    let is = all_read_or AreShares r.slots s [] all no_slots in
    all_set AreShares r.slots s _ all (shares_with_are k (λ x. less x w.content) (holding (amount_of b w) nothing) rs (room_taken k rs b w (amount_under k rs) refl can.has) is)
slots_taken r hand (Purse n) b w can all = all
slots_taken r hand (Payment n) b w can all = all
slots_taken r hand Hand b w can all = all
slots_taken r hand Outside b w can all = all

slots_given : (r : Rights) (h : Holder) (b : ℕ) (w : ValueView) → CanGive r h b w → AllByRecursion AreShares r.slots → AllByRecursion AreShares (given r h b w).slots
slots_given r (Slot s k) b w can all =
    let rs = slots_at r.slots s in
    let is = all_read_or AreShares r.slots s [] all no_slots in
    all_set AreShares r.slots s _ all (shares_with_are k (λ x. more x w.content) (amount_of b w) rs (room_given k rs b w (amount_under k rs) refl can.takes) is)
slots_given r (Purse n) b w can all = all
slots_given r (Payment n) b w can all = all
slots_given r Hand b w can all = all
slots_given r Outside b w can all = all

pub slots_moved : (r : Rights) (hand : ℕ → Content) (ms : List Movement) → CanMoveAll r hand ms → AllByRecursion AreShares r.slots → AllByRecursion AreShares (all_moved r ms).slots
slots_moved r hand [] can all = all
slots_moved r hand (m ∷ ms) can all =
    slots_moved (moved r m) (hand_after hand m) ms can.1
    (slots_given (taken r m.from m.brand m.value) m.to m.brand m.value can.0.to (slots_taken r hand m.from m.brand m.value can.0.from all))

-- ---- names of slots through movements

named_taken : (r : Rights) (h : Holder) (b : ℕ) (w : ValueView) → IsNamedHolder h → AllByRecursion AreNamed r.slots → AllByRecursion AreNamed (taken r h b w).slots
named_taken r (Slot s k) b w named all = all_set AreNamed r.slots s _ all (shares_with_named k (λ x. less x w.content) (holding (amount_of b w) nothing) named (slots_at r.slots s) (all_read_or AreNamed r.slots s [] all tt))
named_taken r (Purse n) b w named all = all
named_taken r (Payment n) b w named all = all
named_taken r Hand b w named all = all
named_taken r Outside b w named all = all

named_given : (r : Rights) (h : Holder) (b : ℕ) (w : ValueView) → IsNamedHolder h → AllByRecursion AreNamed r.slots → AllByRecursion AreNamed (given r h b w).slots
named_given r (Slot s k) b w named all = all_set AreNamed r.slots s _ all (shares_with_named k (λ x. more x w.content) (amount_of b w) named (slots_at r.slots s) (all_read_or AreNamed r.slots s [] all tt))
named_given r (Purse n) b w named all = all
named_given r (Payment n) b w named all = all
named_given r Hand b w named all = all
named_given r Outside b w named all = all

named_moved : (seats : List Seat) (r : Rights) (ms : List Movement) → AllByRecursion (IsGoodMove seats) ms → AllByRecursion AreNamed r.slots → AllByRecursion AreNamed (all_moved r ms).slots
named_moved seats r [] good all = all
named_moved seats r (m ∷ ms) good all =
    named_moved seats (moved r m) ms good.1
    (named_given (taken r m.from m.brand m.value) m.to m.brand m.value good.0.to_named (named_taken r m.from m.brand m.value good.0.from_named all))

emptied_named : (rs : List Share) → AreNamed rs → AreNamed (map emptied rs)
emptied_named rs all = emptied_all (λ (r : Share). IsKeyword r.keyword) (λ r is. is) rs all

pub empty_slots_named : (p : Proposal) → AreNamed p.give → AreNamed p.want → AreNamed (empty_slots p)
empty_slots_named p give want = empty_slots_all (λ (r : Share). IsKeyword r.keyword) (λ r is. is) p give want

seats_taken : (r : Rights) (h : Holder) (b : ℕ) (w : ValueView) → length (taken r h b w).slots ≡ length r.slots
seats_taken r (Slot s k) b w = length_set r.slots s _
seats_taken r _ b w = refl

seats_given : (r : Rights) (h : Holder) (b : ℕ) (w : ValueView) → length (given r h b w).slots ≡ length r.slots
seats_given r (Slot s k) b w = length_set r.slots s _
seats_given r _ b w = refl

pub seats_moved : (r : Rights) (ms : List Movement) → length (all_moved r ms).slots ≡ length r.slots
seats_moved r [] = refl
seats_moved r (m ∷ ms) = seats_moved (moved r m) ms ∙ (seats_given (taken r m.from m.brand m.value) m.to m.brand m.value ∙ seats_taken r m.from m.brand m.value)

pub seats-after : (w : State) (e : Effect) → IsGoodEffect w e → IsGoodWorld w → AreSeats (after w e).seats (after w e).rights.slots (after w e).pairs (after w e).staging
seats-after w (moves ms) can good = record { staged = good.seats.staged; slotted = seats_moved w.rights ms ∙ good.seats.slotted; paired = good.seats.paired; shares = slots_moved w.rights no_hand ms can.can good.seats.shares; named = named_moved w.seats w.rights ms can.good good.seats.named }
seats-after w (invite d) can good = record { staged = good.seats.staged; slotted = good.seats.slotted; paired = good.seats.paired; shares = good.seats.shares; named = good.seats.named }
seats-after w (stage s shares) can good = record { staged = length_set w.staging s (Some shares) ∙ good.seats.staged; slotted = good.seats.slotted; paired = good.seats.paired; shares = good.seats.shares; named = good.seats.named }
seats-after w (unstage s) can good = record { staged = length_set w.staging s None ∙ good.seats.staged; slotted = good.seats.slotted; paired = good.seats.paired; shares = good.seats.shares; named = good.seats.named }
seats-after w end_staging can good = record { staged = length_map no_shares w.staging ∙ good.seats.staged; slotted = good.seats.slotted; paired = good.seats.paired; shares = good.seats.shares; named = good.seats.named }
seats-after w (offer o) can good =
    let r = with_slots w.rights (empty_slots o.proposal) in
    let more = length_push w.seats (new_seat (offered_by w o).instance o.proposal) in
    record {
      staged = omega (arith, more, length_push w.staging None, good.seats.staged);
      slotted = omega (arith, more, seats_moved r (burn_and_escrows o), length_push w.rights.slots (empty_slots o.proposal), good.seats.slotted);
      paired = omega (arith, more, length_push w.pairs (next_pair w), good.seats.paired);
      shares = slots_moved r no_hand (burn_and_escrows o) can.moves.can (all_push AreShares w.rights.slots (empty_slots o.proposal) good.seats.shares (empty_slots_are o.proposal can.proposal.fits can.proposal.give can.proposal.want));
      named = named_moved (w.seats ++ new_seat (offered_by w o).instance o.proposal ∷ []) r (burn_and_escrows o) can.moves.good (all_push AreNamed w.rights.slots (empty_slots o.proposal) good.seats.named (empty_slots_named o.proposal can.proposal.give_named can.proposal.want_named));
    }
seats-after w (empty_seat i rule) can good =
    let more = length_push w.seats (new_seat i (of_own rule)) in
    record {
      staged = omega (arith, more, length_push w.staging None, good.seats.staged);
      slotted = omega (arith, more, length_push w.rights.slots [], good.seats.slotted);
      paired = omega (arith, more, length_push w.pairs (next_pair w), good.seats.paired);
      shares = all_push AreShares w.rights.slots [] good.seats.shares no_slots;
      named = all_push AreNamed w.rights.slots [] good.seats.named tt;
    }
seats-after w (exit s cause) can good =
    let shares = slots_at w.rights.slots s in
    let is = all_read_or AreShares w.rights.slots s [] good.seats.shares no_slots in
    let as_many = length_set w.seats s (left_seat (seat_at w.seats s) shares) in
    record {
      staged = omega (arith, as_many, length_set w.staging s None, good.seats.staged);
      slotted = omega (arith, as_many, length_set w.rights.slots s (map emptied shares), good.seats.slotted);
      paired = omega (arith, as_many, good.seats.paired);
      shares = all_set AreShares w.rights.slots s (map emptied shares) good.seats.shares (emptied_are shares is);
      named = all_set AreNamed w.rights.slots s (map emptied shares) good.seats.named (emptied_named shares (all_read_or AreNamed w.rights.slots s [] good.seats.named tt));
    }
seats-after w _ can good = good.seats

-- ---- covered

-- the seat that is opened, or one that there was
pub opened_or : (seats : List Seat) (new : Seat) (s : ℕ) → IsOpen (seat_at (seats ++ new ∷ []) s) → length seats ≢ s → s < length seats
opened_or seats new s is other = let lt = open_made (seats ++ new ∷ []) s is in let apart : s ≢ length seats = λ e. other (sym e) in omega (arith, lt, length_push seats new, apart)

-- a seat that is open after another was left, was open, and is another
pub open_still : (seats : List Seat) (n : ℕ) (shares : List Share) (s : ℕ) → IsOpen (seat_at (slice_set seats n (left_seat (seat_at seats n) shares)) s) → n < length seats → n ≢ s
open_still seats n shares s is lt same = let at : seat_at (slice_set seats n (left_seat (seat_at seats n) shares)) s ≡ left_seat (seat_at seats n) shares = subst (λ k. seat_at (slice_set seats n (left_seat (seat_at seats n) shares)) k ≡ left_seat (seat_at seats n) shares) same (read_set seats n (left_seat (seat_at seats n) shares) no_seat lt) in
    let clash : Some shares ≡ None = sym (ap (λ (q : Seat). q.last) at) ∙ is in cc

pub covered-after : (w : State) (e : Effect) → IsGoodEffect w e → IsGoodWorld w → AreCovered (after w e).rights.slots (after w e).seats
covered-after w (moves ms) can good = record {
  each = λ s is. elim (can.safe s) [
    | inl same ↦ subst (IsOfferSafe (seat_at w.seats s).proposal) (sym same) (good.covered.each s is)
    | inr safe ↦ safe
  ];
}
covered-after w (offer o) can good =
    let new = new_seat (offered_by w o).instance o.proposal in
    let slots = (after w (offer o)).rights.slots in
    record {
      each = λ s is. elim (cases_eq (length w.seats) s) [
        | inl here ↦ subst (λ k. IsOfferSafe (seat_at (w.seats ++ new ∷ []) k).proposal (slots_at slots k)) here (subst (λ (q : Seat). IsOfferSafe q.proposal (slots_at slots (length w.seats))) (sym (read_pushed w.seats new no_seat (length w.seats) refl)) can.safe)
        | inr other ↦ elim (can.moves.safe s) [
          | inl same ↦
              let lt = opened_or w.seats new s is other in
              let seat = read_before w.seats new no_seat s other in
              let shares = read_before w.rights.slots (empty_slots o.proposal) [] s (λ e. other (sym good.seats.slotted ∙ e)) in
              subst (λ (q : Seat). IsOfferSafe q.proposal (slots_at slots s)) (sym seat) (subst (IsOfferSafe (seat_at w.seats s).proposal) (sym (same ∙ shares)) (good.covered.each s (sym (ap (λ (q : Seat). q.last) seat) ∙ is)))
          | inr safe ↦ safe
        ]
      ];
    }
covered-after w (empty_seat i rule) can good =
    let new = new_seat i (of_own rule) in
    let slots = w.rights.slots ++ [] ∷ [] in
    record {
      each = λ s is. elim (cases_eq (length w.seats) s) [
        | inl here ↦ subst (λ (q : Seat). IsOfferSafe q.proposal (slots_at slots s)) (sym (read_pushed w.seats new no_seat s (sym here))) (inl (λ k d lt. absurd (omega (arith, lt))))
        | inr other ↦
            let seat = read_before w.seats new no_seat s other in
            let shares = read_before w.rights.slots [] [] s (λ e. other (sym good.seats.slotted ∙ e)) in
            subst (λ (q : Seat). IsOfferSafe q.proposal (slots_at slots s)) (sym seat) (subst (IsOfferSafe (seat_at w.seats s).proposal) (sym shares) (good.covered.each s (sym (ap (λ (q : Seat). q.last) seat) ∙ is)))
      ];
    }
covered-after w (exit n cause) can good =
    let shares = slots_at w.rights.slots n in
    let left = left_seat (seat_at w.seats n) shares in
    record {
      each = λ s is.
          let other = open_still w.seats n shares s is (open_made w.seats n can) in
          let seat = read_other w.seats n s left no_seat other in
          subst (λ (q : Seat). IsOfferSafe q.proposal (slots_at (slice_set w.rights.slots n (map emptied shares)) s)) (sym seat) (subst (IsOfferSafe (seat_at w.seats s).proposal) (sym (read_other w.rights.slots n s (map emptied shares) [] other)) (good.covered.each s (sym (ap (λ (q : Seat). q.last) seat) ∙ is)));
    }
covered-after w (invite d) can good = record { each = good.covered.each }
covered-after w _ can good = good.covered
