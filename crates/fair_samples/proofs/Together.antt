-- A list of turns is fair exactly where it meets each sentence.
use Rattle.fair_rows.specs.amount_math.declared.Kind.TheVariants.{Nat}
use Rattle.fair_rows.specs.Amounts.{IsReadByCall}
use Rattle.std.specs.Prelude.{is_some, length}
use Rattle.fair_rows.specs.ExitCauses.{first_cause}
use Rattle.fair_rows.specs.Movements.{names}
use Rattle.std.proofs.Common.{◌≡◌, ◌↔◌, ℕ, true, false, List, [], ◌∷◌, Some, None, unwrap_or, refl, sym, ap, subst, ◌∙◌, inl, inr}
use Rattle.std.specs.List.{AllByRecursion, slice_get}
use Rattle.fair_rows.specs.rights_model.declared.Holder.TheVariants.{Payment}
use Rattle.fair_rows.specs.rights_model.declared.Sum.{Sum}
use Rattle.fair_rows.specs.turn_rows.Turns.{Event, called, exited, moved, Move, opened, Opening, SeatExit, settled, Turn, Call, Settlement}
use Rattle.fair_rows.specs.turn_rows.declared.editions.Edition.{Edition}
use Rattle.fair_rows.specs.Rows.{AreFairMoves, Due, InTurn, IsFairExit, IsFairOpening, IsFairRow, IsInPlace, IsOpenSlot, NamesOpenSlots, after_event, burn, escrow, payout, payment_under}
use Rattle.fair_rows.specs.Seats.{IsSafe, Seat, brand_under, SlotName}
use Rattle.fair_rows.specs.SoFar.{SoFar, nothing_so_far, with_turn}
use Rattle.fair_rows.specs.Turns.{AreFair, AreFairFrom, AreFairRows, IsFairEnd, IsFairTurnRow, after_events, after_turn_row}
use Rattle.fair_rows.specs.Values.{HaveKinds}
use Rattle.fair_rows.proofs.Steps.{now_is}
use Rattle.fair_samples.specs.Sentences.{Sentence, turns_are_numbered, purse_amounts, payment_amounts, final_amounts, movements_are_defined, payments_stay_spent, values_are_of_one_kind, slots_are_of_one_brand, seats_are_in_order, offers_burn, offers_escrow, kits_are_empty, openings_are_called_for, exits_are_of_open_seats, exits_follow_their_cause, causes_are_the_first, causes_are_followed, payouts_follow, payouts_are_named, payouts_are_new, exits_are_covered, seats_stay_covered, refusals_change_nothing, slots_are_of_opened_seats, slots_are_of_no_exited_seat, payments_are_emptied, tables_balance, supplies_are_bounded, sums_are_told, current_amounts, slot_amounts, minted_totals_are_bounded}
use Rattle.fair_samples.specs.Sentences.{AtTurnRow, AtRow, AtEnd, IfNoneDue, IsNewPayout, IsNoBurn, IsNoEscrow, IsNoPayout, IsOfSlots, MeetsBurn, MeetsEscrow, MeetsPayout, Meets, MeetsFrom, MeetsRows, NamesSlot}

pub same_some : {A : Type 0} (x y : A) → Some x ≡ Some y → x ≡ y
same_some x y e = ap (λ o. unwrap_or o x) e

-- ---- where nothing is due

none_due : {P : Type 0} (ds : List Due) → P → IfNoneDue ds P
none_due [] p = p
none_due (d ∷ ds) p = tt

if_none : {P Q : Type 0} (ds : List Due) → (P → Q) → IfNoneDue ds P → IfNoneDue ds Q
if_none [] f p = f p
if_none (d ∷ ds) f p = tt

if_both : (P Q : Type 0) (ds : List Due) → IfNoneDue ds P → IfNoneDue ds Q → IfNoneDue ds (P × Q)
if_both P Q [] p q = (p, q)
if_both P Q (d ∷ ds) p q = tt

-- ---- a row that is fair meets each sentence

move_place : (ds : List Due) (i : InTurn) (m : Move) → IsInPlace ds i (moved m) → IfNoneDue ds (NamesOpenSlots i.now.seats m)
move_place [] i m h = h
move_place (d ∷ ds) i m h = tt

opening_place : (ds : List Due) (i : InTurn) (o : Opening) → IsInPlace ds i (opened o) → IsFairOpening i o
opening_place [] i o h = h
opening_place (d ∷ ds) i o h = absurd h

exit_place : (ds : List Due) (i : InTurn) (x : SeatExit) → IsInPlace ds i (exited x) → IsFairExit i x
exit_place [] i x h = h
exit_place (d ∷ ds) i x h = absurd h

burn_place : (ds : List Due) (i : InTurn) (e : Event) → IsInPlace ds i e → MeetsBurn ds e
burn_place [] i e h = tt
burn_place (burn ∷ ds) i (moved m) h = h
burn_place (burn ∷ ds) i _ h = absurd h
burn_place _ i e h = tt

escrow_place : (ds : List Due) (i : InTurn) (e : Event) → IsInPlace ds i e → MeetsEscrow ds e
escrow_place [] i e h = tt
escrow_place (escrow seat a ∷ ds) i (moved m) h = h
escrow_place (escrow seat a ∷ ds) i _ h = absurd h
escrow_place _ i e h = tt

payout_place : (ds : List Due) (i : InTurn) (e : Event) → IsInPlace ds i e → MeetsPayout ds e
payout_place [] i e h = tt
payout_place (payout seat slot c found ∷ ds) i (moved m) h = (h.payment, h.named, record { brand = h.brand; from = h.from; to = h.to; whole = h.whole })
payout_place (payout seat slot c found ∷ ds) i _ h = absurd h
payout_place _ i e h = tt

new_place : (ds : List Due) (i : InTurn) (e : Event) → IsInPlace ds i e → IsNewPayout i.now ds e
new_place [] i e h = tt
new_place (payout seat slot c found ∷ ds) i (moved m) h = λ p to. subst (λ q. names q i.now.moves ≡ false) (same_payment h.payment p (sym h.to ∙ to)) h.new
  where
    same_payment : (p q : ℕ) → Payment p ≡ Payment q → p ≡ q
    same_payment p q e = cc
new_place (payout seat slot c found ∷ ds) i (called x) h = tt
new_place (payout seat slot c found ∷ ds) i (opened o) h = tt
new_place (payout seat slot c found ∷ ds) i (exited x) h = tt
new_place (payout seat slot c found ∷ ds) i (settled p r) h = tt
new_place (burn ∷ ds) i e h = tt
new_place (escrow seat a ∷ ds) i e h = tt

named_slot : (i : InTurn) (m : Move) → NamesOpenSlots i.now.seats m → (seat : ℕ) (keyword : List ℕ) → NamesSlot m seat keyword → IsOpenSlot i.now.seats seat keyword m.brand
named_slot i m h seat keyword (inl from) = h.from seat keyword from
named_slot i m h seat keyword (inr to) = h.to seat keyword to

row_each : (s : SoFar) (t : Turn) → IsFairTurnRow s t → (y : Sentence) → AtTurnRow y s t
row_each s t h turns_are_numbered = h.number
row_each s t h purse_amounts = h.read.purse
row_each s t h payment_amounts = h.read.payment
row_each s t h final_amounts = h.read.final
row_each s t h _ = tt

move_each : (i : InTurn) (m : Move) → IsFairRow i (moved m) → (y : Sentence) → AtRow y i (moved m)
move_each i m h movements_are_defined = h.moves.defined
move_each i m h minted_totals_are_bounded = h.moves.minted
move_each i m h payments_stay_spent = h.moves.live
move_each i m h values_are_of_one_kind = h.kinds
move_each i m h slots_are_of_one_brand = (if_none i.due (λ n. record { each = λ seat keyword is s found b has. (let o = named_slot i m n seat keyword is in o.of_brand b (subst (λ z. brand_under keyword z.slots ≡ Some b) (same_some s o.is_open.seat (sym found ∙ o.is_open.was_opened)) has)) }) (move_place i.due i m h.place), tt)
move_each i m h offers_burn = burn_place i.due i (moved m) h.place
move_each i m h offers_escrow = escrow_place i.due i (moved m) h.place
move_each i m h payouts_follow = payout_place i.due i (moved m) h.place
move_each i m h payouts_are_new = (new_place i.due i (moved m) h.place, tt)
move_each i m h refusals_change_nothing = h.refusal
move_each i m h slots_are_of_opened_seats = if_none i.due (λ n seat keyword is. ((named_slot i m n seat keyword is).is_open.seat, (named_slot i m n seat keyword is).is_open.was_opened)) (move_place i.due i m h.place)
move_each i m h slots_are_of_no_exited_seat = if_none i.due (λ n seat keyword is s found. (let o = (named_slot i m n seat keyword is).is_open in subst (λ z. z.last ≡ None) (same_some o.seat s (sym o.was_opened ∙ found)) o.stays)) (move_place i.due i m h.place)
move_each i m h _ = tt

opening_each : (i : InTurn) (o : Opening) → IsFairRow i (opened o) → (y : Sentence) → AtRow y i (opened o)
opening_each i o h values_are_of_one_kind = h.kinds
opening_each i o h slots_are_of_one_brand = (tt, (opening_place i.due i o h.place).of_brand)
opening_each i o h seats_are_in_order = (opening_place i.due i o h.place).next
opening_each i o h offers_burn = burn_place i.due i (opened o) h.place
opening_each i o h offers_escrow = escrow_place i.due i (opened o) h.place
opening_each i o h kits_are_empty = (opening_place i.due i o h.place).empty
opening_each i o h openings_are_called_for = (opening_place i.due i o h.place).by
opening_each i o h payouts_follow = payout_place i.due i (opened o) h.place
opening_each i o h payouts_are_new = (new_place i.due i (opened o) h.place, tt)
opening_each i o h refusals_change_nothing = h.refusal
opening_each i o h _ = tt

exit_each : (i : InTurn) (x : SeatExit) → IsFairRow i (exited x) → (y : Sentence) → AtRow y i (exited x)
exit_each i x h values_are_of_one_kind = h.kinds
exit_each i x h slots_are_of_one_brand = (tt, tt)
exit_each i x h offers_burn = burn_place i.due i (exited x) h.place
exit_each i x h offers_escrow = escrow_place i.due i (exited x) h.place
exit_each i x h exits_are_of_open_seats = (exit_place i.due i x h.place).is_open
exit_each i x h exits_follow_their_cause = λ s found. (let f = exit_place i.due i x h.place in subst (λ z. first_cause i.before.owners i.row i.here z.opening.instance x.seat ≡ Some x.cause) (same_some f.is_open.seat s (sym f.is_open.was_opened ∙ found)) f.cause)
exit_each i x h payouts_follow = payout_place i.due i (exited x) h.place
exit_each i x h payouts_are_named = λ s found. (let f = exit_place i.due i x h.place in subst (λ (z : Seat). (length x.payouts ≡ length z.slots) × AllByRecursion (λ (slot : SlotName). is_some (payment_under slot.keyword x.payouts) ≡ true) z.slots) (same_some f.is_open.seat s (sym f.is_open.was_opened ∙ found)) (f.as_many, f.named))
exit_each i x h payouts_are_new = (new_place i.due i (exited x) h.place, (exit_place i.due i x h.place).fresh)
exit_each i x h exits_are_covered = λ s found. (let f = exit_place i.due i x h.place in subst (λ z. IsSafe i.now.table z.opening) (same_some f.is_open.seat s (sym f.is_open.was_opened ∙ found)) f.safe)
exit_each i x h refusals_change_nothing = h.refusal
exit_each i x h _ = tt

call_each : (i : InTurn) (c : Call) → IsFairRow i (called c) → (y : Sentence) → AtRow y i (called c)
call_each i c h values_are_of_one_kind = h.kinds
call_each i c h slots_are_of_one_brand = (tt, tt)
call_each i c h offers_burn = burn_place i.due i (called c) h.place
call_each i c h offers_escrow = escrow_place i.due i (called c) h.place
call_each i c h payouts_follow = payout_place i.due i (called c) h.place
call_each i c h payouts_are_new = (new_place i.due i (called c) h.place, tt)
call_each i c h refusals_change_nothing = h.refusal
call_each i c h current_amounts = (call_place i.due h.place).current
  where
    call_place : (ds : List Due) → IsInPlace ds i (called c) → IsReadByCall i.now.table c
    call_place [] p = p
    call_place (d ∷ ds) p = absurd p
call_each i c h slot_amounts = (call_place i.due h.place).allocated
  where
    call_place : (ds : List Due) → IsInPlace ds i (called c) → IsReadByCall i.now.table c
    call_place [] p = p
    call_place (d ∷ ds) p = absurd p
call_each i c h _ = tt

settlement_each : (i : InTurn) (p : ℕ) (r : Settlement) → IsFairRow i (settled p r) → (y : Sentence) → AtRow y i (settled p r)
settlement_each i p r h values_are_of_one_kind = h.kinds
settlement_each i p r h slots_are_of_one_brand = (tt, tt)
settlement_each i p r h offers_burn = burn_place i.due i (settled p r) h.place
settlement_each i p r h offers_escrow = escrow_place i.due i (settled p r) h.place
settlement_each i p r h payouts_follow = payout_place i.due i (settled p r) h.place
settlement_each i p r h payouts_are_new = (new_place i.due i (settled p r) h.place, tt)
settlement_each i p r h refusals_change_nothing = h.refusal
settlement_each i p r h _ = tt

event_each : (i : InTurn) (e : Event) → IsFairRow i e → (y : Sentence) → AtRow y i e
event_each i (called c) h = call_each i c h
event_each i (opened o) h = opening_each i o h
event_each i (moved m) h = move_each i m h
event_each i (exited x) h = exit_each i x h
event_each i (settled p r) h = settlement_each i p r h

rows_each : (i : InTurn) (es : List Event) → AreFairRows i es → (y : Sentence) → MeetsRows y i es
rows_each i [] h y = tt
rows_each i (e ∷ es) h y = (event_each i e h.0 y, rows_each (after_event i e) es h.1 y)

no_burn : (ds : List Due) → ds ≡ [] → IsNoBurn ds
no_burn [] e = tt
no_burn (burn ∷ ds) e = cc
no_burn _ e = tt

no_escrow : (ds : List Due) → ds ≡ [] → IsNoEscrow ds
no_escrow [] e = tt
no_escrow (burn ∷ ds) e = tt
no_escrow (escrow seat a ∷ ds) e = cc
no_escrow (payout seat slot c found ∷ ds) e = tt

no_payout : (ds : List Due) → ds ≡ [] → IsNoPayout ds
no_payout [] e = tt
no_payout (burn ∷ ds) e = tt
no_payout (escrow seat a ∷ ds) e = tt
no_payout (payout seat slot c found ∷ ds) e = cc

end_each : (d : Edition) (i : InTurn) (sums : List Sum) → IsFairEnd d i sums → (y : Sentence) → AtEnd d y i sums
end_each d i sums h offers_burn = no_burn i.due h.complete
end_each d i sums h offers_escrow = no_escrow i.due h.complete
end_each d i sums h payouts_follow = no_payout i.due h.complete
end_each d i sums h causes_are_the_first = h.caused
end_each d i sums h causes_are_followed = h.stays
end_each d i sums h seats_stay_covered = h.safe
end_each d i sums h payments_are_emptied = h.emptied
end_each d i sums h tables_balance = record { stores = h.balanced.adds_up.adds_up; hand_empty = h.balanced.adds_up.hand_empty }
end_each d i sums h supplies_are_bounded = λ kinds. record { kind_of = h.balanced.kind_of; values = h.balanced.values; fits = h.balanced.adds_up.bounded; within = h.balanced.within }
end_each d i sums h sums_are_told = h.sums
end_each d i sums h _ = tt

each_from : (d : Edition) (s : SoFar) (ts : List Turn) → AreFairFrom d s ts → (y : Sentence) → MeetsFrom d y s ts
each_from d s [] h y = tt
each_from d s (t ∷ ts) h y = ((row_each s t h.0.row y, rows_each (after_turn_row s t) t.events h.0.events y, end_each d (after_events (after_turn_row s t) t.events) t.sums h.0.end y), each_from d (with_turn s t) ts h.1 y)

-- ---- and the other way round

place_from : (ds : List Due) (i : InTurn) (e : Event) → MeetsBurn ds e → MeetsEscrow ds e → MeetsPayout ds e → IsNewPayout i.now ds e → IfNoneDue ds (IsInPlace [] i e) → IsInPlace ds i e
place_from [] i e b c p n free = free
place_from (burn ∷ ds) i _ b c p n free = b
place_from (escrow seat a ∷ ds) i _ b c p n free = c
place_from (payout seat slot t found ∷ ds) i (moved m) b c p n free = record { payment = p.0; named = p.1; brand = p.2.brand; from = p.2.from; to = p.2.to; whole = p.2.whole; new = n p.0 p.2.to }
place_from (payout seat slot t found ∷ ds) i _ b c p n free = p

open_slot : (i : InTurn) (m : Move) → IsOfSlots i.now.seats m
    → ((seat : ℕ) (keyword : List ℕ) → NamesSlot m seat keyword → (s : Seat) × (slice_get i.now.seats seat ≡ Some s))
    → ((seat : ℕ) (keyword : List ℕ) → NamesSlot m seat keyword → (s : Seat) → slice_get i.now.seats seat ≡ Some s → s.last ≡ None)
    → (seat : ℕ) (keyword : List ℕ) → NamesSlot m seat keyword → IsOpenSlot i.now.seats seat keyword m.brand
open_slot i m brand was left seat keyword is =
    let (s, found) = was seat keyword is in
    record { is_open = record { seat = s; was_opened = found; stays = left seat keyword is s found }; of_brand = λ b has. brand.each seat keyword is s found b has }

opening_from : (i : InTurn) (o : Opening) → ((y : Sentence) → AtRow y i (opened o)) → IsFairOpening i o
opening_from i o h = record {
  next = h seats_are_in_order;
  of_brand = (h slots_are_of_one_brand).1;
  by = h openings_are_called_for;
  empty = h kits_are_empty;
}

exit_from : (i : InTurn) (x : SeatExit) → ((y : Sentence) → AtRow y i (exited x)) → IsFairExit i x
exit_from i x h =
    let o = h exits_are_of_open_seats in
    let named = h payouts_are_named o.seat o.was_opened in
    record {
      is_open = o;
      cause = h exits_follow_their_cause o.seat o.was_opened;
      safe = h exits_are_covered o.seat o.was_opened;
      as_many = named.0;
      named = named.1;
      fresh = (h payouts_are_new).1;
    }

free_from : (i : InTurn) (e : Event) → ((y : Sentence) → AtRow y i e) → IfNoneDue i.due (IsInPlace [] i e)
free_from i (called c) h = none_due i.due (record { current = h current_amounts; allocated = h slot_amounts })
free_from i (opened o) h = none_due i.due (opening_from i o h)
free_from i (exited x) h = none_due i.due (exit_from i x h)
free_from i (settled p r) h = none_due i.due tt
free_from i (moved m) h = if_none i.due (λ p. (let slot = open_slot i m p.0 p.1.0 p.1.1 in record { from = λ seat keyword is. slot seat keyword (inl is); to = λ seat keyword is. slot seat keyword (inr is) })) (if_both _ _ i.due (h slots_are_of_one_brand).0 (if_both _ _ i.due (h slots_are_of_opened_seats) (h slots_are_of_no_exited_seat)))

moves_from : (i : InTurn) (e : Event) → ((y : Sentence) → AtRow y i e) → AreFairMoves i e
moves_from i (moved m) h = record { defined = h movements_are_defined; minted = h minted_totals_are_bounded; live = h payments_stay_spent }
moves_from i _ h = tt

event_from : (i : InTurn) (e : Event) → ((y : Sentence) → AtRow y i e) → IsFairRow i e
event_from i e h = record {
  place = place_from i.due i e (h offers_burn) (h offers_escrow) (h payouts_follow) (h payouts_are_new).0 (free_from i e h);
  moves = moves_from i e h;
  kinds = h values_are_of_one_kind;
  refusal = h refusals_change_nothing;
}

rows_from : (i : InTurn) (es : List Event) → ((y : Sentence) → MeetsRows y i es) → AreFairRows i es
rows_from i [] h = tt
rows_from i (e ∷ es) h = (event_from i e (λ y. (h y).0), rows_from (after_event i e) es (λ y. (h y).1))

kinds_after : (i : InTurn) (es : List Event) → HaveKinds i.now.amounts → MeetsRows values_are_of_one_kind i es → HaveKinds (after_events i es).now.amounts
kinds_after i [] kinds h = kinds
kinds_after i (e ∷ es) kinds h = kinds_after (after_event i e) es h.0 h.1

row_from : (s : SoFar) (t : Turn) → ((y : Sentence) → AtTurnRow y s t) → IsFairTurnRow s t
row_from s t h = record { number = h turns_are_numbered; read = record { purse = h purse_amounts; payment = h payment_amounts; final = h final_amounts } }

nothing_due : (ds : List Due) → IsNoBurn ds → IsNoEscrow ds → IsNoPayout ds → ds ≡ []
nothing_due [] b e p = refl
nothing_due (burn ∷ ds) b e p = absurd b
nothing_due (escrow seat a ∷ ds) b e p = absurd e
nothing_due (payout seat slot c found ∷ ds) b e p = absurd p

end_from : (d : Edition) (i : InTurn) (sums : List Sum) → HaveKinds i.now.amounts → ((y : Sentence) → AtEnd d y i sums) → IsFairEnd d i sums
end_from d i sums kinds h =
    let bounded = h supplies_are_bounded kinds in
    record {
      complete = nothing_due i.due (h offers_burn) (h offers_escrow) (h payouts_follow);
      sums = h sums_are_told;
      balanced = record { kind_of = bounded.kind_of; values = bounded.values; adds_up = record { adds_up = (h tables_balance).stores; hand_empty = (h tables_balance).hand_empty; bounded = bounded.fits }; within = bounded.within };
      safe = h seats_stay_covered;
      stays = h causes_are_followed;
      caused = h causes_are_the_first;
      emptied = h payments_are_emptied;
    }

fair_from : (d : Edition) (s : SoFar) (ts : List Turn) → HaveKinds s.amounts → ((y : Sentence) → MeetsFrom d y s ts) → AreFairFrom d s ts
fair_from d s [] kinds h = tt
fair_from d s (t ∷ ts) kinds h =
    let after = kinds_after (after_turn_row s t) t.events kinds (h values_are_of_one_kind).0.1 in
    let told : HaveKinds (with_turn s t).amounts = subst (λ (n : SoFar). HaveKinds n.amounts) (now_is (after_turn_row s t) t.events) after in (
      record {
        row = row_from s t (λ y. (h y).0.0);
        events = rows_from (after_turn_row s t) t.events (λ y. (h y).0.1);
        end = end_from d (after_events (after_turn_row s t) t.events) t.sums after (λ y. (h y).0.2);
      },
      fair_from d (with_turn s t) ts told (λ y. (h y).1),
    )

pub fair_is_each : (d : Edition) (ts : List Turn) → AreFair d ts ↔ ((y : Sentence) → Meets d y ts)
fair_is_each d ts = (each_from d nothing_so_far ts, fair_from d nothing_so_far ts (record { kind_of = λ b. Nat; values = tt }))
